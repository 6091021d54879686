-- Of entries, those dated on or before a day come first, and the last of them governs it.
use Rattle.std.proofs.Common.{◌≡◌, ℕ, suc, ◌<◌, ◌≤◌, ◌⊎◌, inl, inr, true, false, List, [], ◌∷◌, length}
use Rattle.std.proofs.Common.{get_or, take, filter, slice_get, nat_le, None, refl, ap, ◌∙◌, arith}
use Rattle.std.specs.List.{last_or}
use Rattle.std.specs.List.Sorted.{IsPartitionPoint, IsNonDecreasingBy}
use Rattle.std.proofs.lemmas.Bool.{cases_lt, le-leb, lt-leb, lt-ltb, le-ltb}
use Rattle.kb_timeline.specs.declared.entry.Entry.{Entry}
use Rattle.kb_timeline.specs.EntryDays.{IsEntries, entry_on, is_before_start}
use Rattle.kb_timeline.proofs.Partitions.{filter-take, last_or-take}

-- so many entries are dated on or before a day, and all others after it
abbrev pub AreBegun : List Entry → ℕ → ℕ → Type 0
AreBegun entries day count =
    IsPartitionPoint (λ (entry : Entry). entry.day ≤ day) (λ (entry : Entry). day < entry.day) entries count

-- the days of entries don't fall
pub IsNonDecreasingBy-entries : (entries : List Entry) → IsEntries entries
    → IsNonDecreasingBy (λ (entry : Entry). entry.day) entries
IsNonDecreasingBy-entries entries is i j d up within = by_place (cases_lt i j)
  where
    by_place : (i < j) ⊎ (j ≤ i) → (get_or entries i d).day ≤ (get_or entries j d).day
    by_place (inl before) = is.begun i j d before within
    by_place (inr at) =
        let same : i ≡ j = omega arith in
        omega (arith, ap (λ (place : ℕ). (get_or entries place d).day) same)

-- the entries dated on or before a day are the first ones
filter-begun : (entries : List Entry) (day count : ℕ) → count ≤ length entries → AreBegun entries day count
    → filter (λ (entry : Entry). nat_le entry.day day) entries ≡ take count entries
filter-begun entries day count within begun =
    filter-take (λ (entry : Entry). nat_le entry.day day) entries count within (
      (λ (k : ℕ) (d : Entry) low high. le-leb (get_or entries k d).day day (begun.0 k d low high)),
      (λ (k : ℕ) (d : Entry) low high. lt-leb (get_or entries k d).day day (begun.1 k d low high)),
    )

-- none governs a day before all entries
pub entry_on-none : (entries : List Entry) (day : ℕ) → AreBegun entries day 0 → entry_on entries day ≡ None
entry_on-none entries day begun = ap (last_or None) (filter-begun entries day 0 (omega arith) begun)

-- the last entry dated on or before a day governs it
pub entry_on-last : (entries : List Entry) (day place : ℕ) → place < length entries
    → AreBegun entries day (suc place)
    → entry_on entries day ≡ slice_get entries place
entry_on-last entries day place within begun =
    ap (last_or None) (filter-begun entries day (suc place) (omega arith) begun)
    ∙ last_or-take None entries place within

-- a day before all entries lies before the start
pub is_before_start-none : (entries : List Entry) (day : ℕ) → 0 < length entries → AreBegun entries day 0
    → is_before_start entries day ≡ true
is_before_start-none [] day some begun = absurd (omega arith)
is_before_start-none (start ∷ changes) day some begun =
    lt-ltb day start.day (begun.1 0 start (omega arith) (omega arith))

-- a day on or after some entry doesn't
pub is_before_start-some : (entries : List Entry) (day count : ℕ) → 0 < count → count ≤ length entries
    → AreBegun entries day count
    → is_before_start entries day ≡ false
is_before_start-some [] day count some within begun = refl
is_before_start-some (start ∷ changes) day count some within begun =
    le-ltb day start.day (begun.0 0 start (omega arith) (omega arith))
