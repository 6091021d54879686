-- Where the numbers of items, and of those that they repair, are below another number, so are those of what
-- they charge, and of what they repair.
use Rattle.std.proofs.Common.{◌≡◌, ℕ, ◌<◌, ◌≤◌, Bool, true, false, not, ◌&&◌, cond, List, [], ◌∷◌, Option}
use Rattle.std.proofs.Common.{Some, None, All, refl, arith}
use Rattle.std.specs.List.{flat_map}
use Rattle.std.proofs.lemmas.Bool.{ne_eqb}
use Rattle.std.proofs.lemmas.List.Elements.{All-nil, All-cons, All-head, All-tail, All-append}
use Rattle.kb_due.specs.declared.cell.Cell.{Cell}
use Rattle.kb_tree.specs.declared.item.NewItem.TheVariants.{Bill, Repair}
use Rattle.kb_tree.specs.Items.{Numbered, covers, is_repaired, Charge, charge_of, charges_on}
use Rattle.kb_tree.specs.Repairs.{wrong_among}
use Rattle.kb_tree.specs.Covers.{IsBelow}
use Rattle.kb_tree.specs.Private.LeftCharges.{is_number}
use Rattle.kb_tree.proofs.WrongCharges.{wrong_among-holds}

-- a charge's number is below another
abbrev pub HasBelow : ℕ → Charge → Type 0
HasBelow first charge = charge.number < first

-- a charge that may be there
one-below : (first : ℕ) (there : Bool) (charge : Charge) → charge.number < first
    → All (HasBelow first) (cond there (charge ∷ []) [])
one-below first true charge below = All-cons (HasBelow first) charge [] below (All-nil (HasBelow first))
one-below first false charge below = All-nil (HasBelow first)

module _ (items : List Numbered) (first day : ℕ) where
  -- what an item charges has its number
  charge_of-below : (item : Numbered) → IsBelow first item
      → All (HasBelow first) (charge_of items day item.0 item.1)
  charge_of-below (number, Bill from to cell) below =
      one-below first (covers from to day && not (is_repaired items number day))
      (record { number = number; cell = cell }) below
  charge_of-below (number, Repair of from to) below = All-nil (HasBelow first)

  -- what items charge has their numbers
  charges-below : (rest : List Numbered) → All (IsBelow first) rest
      → All (HasBelow first) (flat_map (λ (item : Numbered). charge_of items day item.0 item.1) rest)
  charges-below [] below = All-nil (HasBelow first)
  charges-below (item ∷ rest) below =
      All-append (HasBelow first) (charge_of items day item.0 item.1)
      (flat_map (λ (item : Numbered). charge_of items day item.0 item.1) rest)
      (charge_of-below item (All-head (IsBelow first) item rest below))
      (charges-below rest (All-tail (IsBelow first) item rest below))

  -- the charges of a day have the numbers of items
  pub charges_on-below : All (IsBelow first) items → All (HasBelow first) (charges_on items day)
  charges_on-below below = charges-below items below

-- a wrong charge's number is below, where those of all charges are
pub wrong_among-below : (first : ℕ) (charges : List Charge) (due : Option Cell) (number : ℕ)
    → All (HasBelow first) charges → wrong_among charges due ≡ Some number → number < first
wrong_among-below first charges due number below e =
    let wrong = wrong_among-holds (HasBelow first) charges due number below e in
    let same : wrong.0.number ≡ number = wrong.1 in
    let low : wrong.0.number < first = wrong.2 in
    omega arith

-- no number from there on is that of the wrong charge
pub is_number-wrong : (first : ℕ) (charges : List Charge) (due : Option Cell) (number : ℕ)
    → All (HasBelow first) charges → first ≤ number → is_number (wrong_among charges due) number ≡ false
is_number-wrong first charges due number below past = by_wrong (wrong_among charges due) refl
  where
    by_wrong : (wrong : Option ℕ) → wrong_among charges due ≡ wrong → is_number wrong number ≡ false
    by_wrong None e = refl
    by_wrong (Some other) e =
        let low = wrong_among-below first charges due other below e in
        rw (ne_eqb other number (λ same. omega arith))

-- no number from there on is repaired
pub is_repaired-past : (first : ℕ) (items : List Numbered) (number day : ℕ) → All (IsBelow first) items
    → first ≤ number → is_repaired items number day ≡ false
is_repaired-past first [] number day below past = refl
is_repaired-past first ((own, Bill from to cell) ∷ items) number day below past =
    is_repaired-past first items number day
    (All-tail (IsBelow first) (own, Bill from to cell) items below) past
is_repaired-past first ((own, Repair of from to) ∷ items) number day below past =
    let low : IsBelow first (own, Repair of from to) = All-head (IsBelow first) (own, Repair of from to) items
    below in
    let later = is_repaired-past first items number day
    (All-tail (IsBelow first) (own, Repair of from to) items below) past in
    rw (ne_eqb of number (λ same. omega (arith, low.1))) later
