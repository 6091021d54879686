-- The entry that governs a day is dated on or before it.
use Rattle.std.proofs.Common.{◌≡◌, ℕ, ◌≤◌, Bool, true, false, List, [], ◌∷◌, filter, Option, Some, None}
use Rattle.std.proofs.Common.{IfSome, Bor, refl, sym}
use Rattle.std.specs.List.{last_or}
use Rattle.std.specs.Option.{option_copied}
use Rattle.std.proofs.lemmas.Bool.{leb-true}
use Rattle.std.proofs.lemmas.Option.{none-some}
use Rattle.kb_timeline.specs.declared.entry.Entry.{Entry}
use Rattle.kb_timeline.specs.EntryDays.{entry_on}

-- the last of those that pass a test passes it
last_or-filter : {A : Type 0} (test : A → Bool) (before : Option A) (members : List A) (last : A)
    → IfSome before (λ (member : A). test member ≡ true)
    → last_or before (filter test members) ≡ Some last → test last ≡ true
last_or-filter test None [] last passes found = absurd (none-some last found)
last_or-filter test (Some member) [] last passes found = let same : member ≡ last = cc in rw (sym same) passes
last_or-filter {A} test before (member ∷ later) last passes found = by_test (test member) refl
    (last_or-filter test (Some member) later last) (last_or-filter test before later last passes)
  where
    by_test : (here : Bool) → test member ≡ here
        → (IfSome (Some member) (λ (other : A). test other ≡ true)
        → last_or (Some member) (filter test later) ≡ Some last → test last ≡ true)
        → (last_or before (filter test later) ≡ Some last → test last ≡ true) → test last ≡ true
    by_test true is one other = one is (rw is at found)
    by_test false is one other = other (rw is at found)

pub entry_on-dated : (entries : List Entry) (day : ℕ) (found : Option (Bor Entry))
    → option_copied found ≡ entry_on entries day
    → IfSome found (λ (entry : Bor Entry). entry.now.day ≤ day)
entry_on-dated entries day None e = tt
entry_on-dated entries day (Some entry) e =
    leb-true entry.now.day day (last_or-filter _ None entries entry.now tt (sym e))
