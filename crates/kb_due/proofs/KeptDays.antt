-- The days on which an add-on is to be kept, one after another.
use Rattle.std.proofs.Common.{◌≡◌, ℕ, suc, ◌+◌, ◌-◌, ◌<◌, ◌≤◌, Bool, true, false, List, [], ◌∷◌, slice_get}
use Rattle.std.proofs.Common.{Some, refl, ap, ◌∙◌, arith}
use Rattle.std.specs.List.{list_all, range_with_len}
use Rattle.kb_timeline.specs.declared.entry.Entry.{Entry}
use Rattle.kb_due.specs.Life.{days_from_start}

-- the days up to an end are the first one and those after it
pub range_with_len-next : (from end : ℕ) → from < end
    → range_with_len from (end - from) ≡ from ∷ range_with_len (from + 1) (end - (from + 1))
range_with_len-next from end h =
    let count : end - from ≡ suc (end - (from + 1)) = omega arith in
    ap (range_with_len from) count

-- where the first passes, all pass if those after it do
pub list_all-next : (test : ℕ → Bool) (from end : ℕ) → from < end → test from ≡ true
    → list_all test (range_with_len from (end - from))
    ≡ list_all test (range_with_len (from + 1) (end - (from + 1)))
list_all-next test from end h passes = ap (list_all test) (range_with_len-next from end h) ∙ rw passes refl

-- where it fails, not all do
pub list_all-fails : (test : ℕ → Bool) (from end : ℕ) → from < end → test from ≡ false
    → list_all test (range_with_len from (end - from)) ≡ false
list_all-fails test from end h fails = ap (list_all test) (range_with_len-next from end h) ∙ rw fails refl

-- behind the end there is no day
pub list_all-none : (test : ℕ → Bool) (from end : ℕ) → end ≤ from
    → list_all test (range_with_len from (end - from)) ≡ true
list_all-none test from end h = let none : end - from ≡ 0 = omega arith in rw none refl

-- the days from the start on
pub days_from_start-first : (entries : List Entry) (start : Entry) (day : ℕ)
    → slice_get entries 0 ≡ Some start
    → days_from_start entries day ≡ range_with_len start.day (day + 1 - start.day)
days_from_start-first [] start day e = absurd (cc)
days_from_start-first (first ∷ changes) start day e = let same : first ≡ start = cc in rw same refl

pub ruleset kept_days = (list_all-next, list_all-fails, list_all-none)

pub ruleset start_days = (days_from_start-first)
