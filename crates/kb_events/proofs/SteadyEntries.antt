-- Between two days on which no entry is dated, one entry governs.
use Rattle.std.proofs.Common.{◌≡◌, ℕ, ◌<◌, ◌≤◌, ◌⊎◌, inl, inr, Bool, true, false, List, [], ◌∷◌, All, filter}
use Rattle.std.proofs.Common.{nat_le, None, refl, sym, ap, ◌∙◌, arith}
use Rattle.std.specs.List.{last_or}
use Rattle.std.proofs.lemmas.Bool.{cases_lt, le-leb, lt-leb}
use Rattle.std.proofs.lemmas.List.Elements.{All-head, All-tail}
use Rattle.kb_timeline.specs.declared.entry.Entry.{Entry}
use Rattle.kb_timeline.specs.EntryDays.{entry_on}
use Rattle.kb_events.specs.Private.Quiet.{IsQuiet, AreEntriesQuiet}

-- what doesn't happen between two days has happened by the later one exactly if it has by the earlier one
pub nat_le-steady : (day d e : ℕ) → d ≤ e → IsQuiet d e day → nat_le day e ≡ nat_le day d
nat_le-steady day d e h quiet = by_place (cases_lt d day) (cases_lt e day)
  where
    by_place : (d < day) ⊎ (day ≤ d) → (e < day) ⊎ (day ≤ e) → nat_le day e ≡ nat_le day d
    by_place (inr before) other = le-leb day e (omega arith) ∙ sym (le-leb day d before)
    by_place (inl after) (inl behind) = lt-leb day e behind ∙ sym (lt-leb day d after)
    by_place (inl after) (inr by) = absurd (quiet after by)

-- tests that agree on all members let the same ones pass
filter-agrees : {A : Type 0} (p q : A → Bool) (members : List A)
    → All (λ (member : A). p member ≡ q member) members → filter p members ≡ filter q members
filter-agrees p q [] agree = refl
filter-agrees {A} p q (member ∷ later) agree =
    by_test (q member) (All-head (λ (member : A). p member ≡ q member) member later agree) refl
    (filter-agrees p q later (All-tail (λ (member : A). p member ≡ q member) member later agree))
  where
    by_test : (here : Bool) → p member ≡ q member → q member ≡ here → filter p later ≡ filter q later
        → filter p (member ∷ later) ≡ filter q (member ∷ later)
    by_test true same is rest = let passes : p member ≡ true = same
        ∙ is in rw passes (rw is (ap (λ kept. member ∷ kept) rest))
    by_test false same is rest = let fails : p member ≡ false = same ∙ is in rw fails (rw is rest)

-- where no entry is dated after a day and up to another, the same one governs both
pub entry_on-steady : (entries : List Entry) (d e : ℕ) → d ≤ e → AreEntriesQuiet d e entries
    → entry_on entries e ≡ entry_on entries d
entry_on-steady entries d e h quiet =
    ap (last_or None) (filter-agrees (λ (entry : Entry). nat_le entry.day e)
    (λ (entry : Entry). nat_le entry.day d) entries
    (λ place other within. nat_le-steady _ d e h (quiet place other within)))
