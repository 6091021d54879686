-- The charges of a day once new items are added: repairs take one off, and bills add theirs.
use Rattle.std.proofs.Common.{◌≡◌, ℕ, ◌+◌, ◌<◌, ◌≤◌, ◌⊎◌, inl, inr, Bool, true, false, not, cond, nat_eq}
use Rattle.std.proofs.Common.{◌==◌, ◌&&◌, ◌||◌, List, [], ◌∷◌, ◌++◌, length, map, filter, Option, None}
use Rattle.std.proofs.Common.{option_to_list, All, refl, ap, ap₂, ◌∙◌, arith, append-nil}
use Rattle.std.specs.List.{list_any, flat_map}
use Rattle.std.proofs.Math.Bool.{or-false}
use Rattle.std.proofs.lemmas.List.Concat.{flat_map-append}
use Rattle.std.proofs.lemmas.List.Folds.{list_any-append}
use Rattle.std.proofs.lemmas.List.Elements.{filter-append}
use Rattle.kb_base.specs.Runs.{Stretch, runs, has_day, values_on}
use Rattle.kb_base.proofs.Covered.{runs-cover, runs-before, runs-after, nat_eq-same}
use Rattle.kb_due.specs.declared.cell.Cell.{Cell}
use Rattle.kb_due.specs.CellStretches.{same_cell}
use Rattle.kb_tree.specs.declared.item.NewItem.{NewItem}
use Rattle.kb_tree.specs.declared.item.NewItem.TheVariants.{Bill, Repair}
use Rattle.kb_tree.specs.Items.{Numbered, covers, repairs, is_repaired, Charge, charge_of, charges_on}
use Rattle.kb_tree.specs.Items.{numbered}
use Rattle.kb_tree.specs.Repairs.{wrong_among, missing_among, repair_of, bill_of, new_repairs, new_bills}
use Rattle.kb_tree.specs.Repairs.{new_items}
use Rattle.kb_tree.specs.Covers.{IsBelow}
use Rattle.kb_tree.specs.Private.LeftCharges.{is_number, charges_but, billed_from, missing_runs}
use Rattle.kb_tree.specs.Private.LeftCharges.{charges_after}
use Rattle.kb_tree.proofs.BelowNumbers.{charges_on-below, is_number-wrong, is_repaired-past}
use Rattle.kb_tree.proofs.AddedNumbers.{numbered-append}

-- the charges by some items, where others may repair them
abbrev charges_by : List Numbered → ℕ → List Numbered → List Charge
charges_by items day rest = flat_map (λ (item : Numbered). charge_of items day item.0 item.1) rest

-- what is kept of two parts is what is kept of each
kept-append : (keeps : Charge → Bool) (new old news olds : List Charge)
    → new ≡ filter keeps old → news ≡ filter keeps olds → new ++ news ≡ filter keeps (old ++ olds)
kept-append keeps new old news olds here later = cc (filter-append keeps old olds)

-- one bill's charge, where more repairs may take it off
kept-one : (covered repaired taken : Bool) (keeps : Charge → Bool) (charge : Charge)
    → keeps charge ≡ not taken
    → cond (covered && not (repaired || taken)) (charge ∷ []) []
    ≡ filter keeps (cond (covered && not repaired) (charge ∷ []) [])
kept-one false repaired taken keeps charge e = refl
kept-one true true taken keeps charge e = refl
kept-one true false taken keeps charge e = rw e

module _ (items added : List Numbered) (day : ℕ) (taken : ℕ → Bool)
    (tells : (number : ℕ) → is_repaired added number day ≡ taken number) where
  -- a bill's charge stays, where no added item repairs it
  charge_of-taken : (item : Numbered)
      → charge_of (items ++ added) day item.0 item.1
      ≡ filter (λ (charge : Charge). not (taken charge.number)) (charge_of items day item.0 item.1)
  charge_of-taken (number, Bill from to cell) =
      let charge : Charge = record { number = number; cell = cell } in
      ap (λ repaired. cond (covers from to day && not repaired) (charge ∷ []) [])
      (list_any-append (λ (item : Numbered). repairs number day item.1) items added
      ∙ ap (λ more. is_repaired items number day || more) (tells number))
      ∙ kept-one (covers from to day) (is_repaired items number day) (taken number)
      (λ (charge : Charge). not (taken charge.number)) charge refl
  charge_of-taken (number, Repair of from to) = refl

  -- where more items are added, the charges by some are those that no added item repairs
  charges_by-taken : (rest : List Numbered)
      → charges_by (items ++ added) day rest
      ≡ filter (λ (charge : Charge). not (taken charge.number)) (charges_by items day rest)
  charges_by-taken [] = refl
  charges_by-taken (item ∷ rest) =
      kept-append (λ (charge : Charge). not (taken charge.number))
      (charge_of (items ++ added) day item.0 item.1) (charge_of items day item.0 item.1)
      (charges_by (items ++ added) day rest) (charges_by items day rest)
      (charge_of-taken item) (charges_by-taken rest)

-- what numbered items repair is what the items repair
is_repaired-numbered : (number day first : ℕ) (added : List NewItem)
    → is_repaired (numbered first added) number day ≡ list_any (repairs number day) added
is_repaired-numbered number day first [] = refl
is_repaired-numbered number day first (item ∷ later) =
    ap (λ more. repairs number day item || more) (is_repaired-numbered number day (first + 1) later)

-- a repair by a stretch that may have the day
any-one : (test : ℕ → Bool) (held rest : Bool) (stretch : Stretch ℕ) (kept : List (Stretch ℕ))
    → rest ≡ list_any test (map (λ (s : Stretch ℕ). s.value) kept)
    → (test stretch.value && held || rest)
    ≡ list_any test (map (λ (s : Stretch ℕ). s.value) (cond held (stretch ∷ kept) kept))
any-one test held rest stretch kept e = by_test held (test stretch.value) refl
  where
    by_test : (held passed : Bool) → test stretch.value ≡ passed
        → (test stretch.value && held || rest)
        ≡ list_any test (map (λ (s : Stretch ℕ). s.value) (cond held (stretch ∷ kept) kept))
    by_test true true here = rw here refl
    by_test true false here = rw here e
    by_test false true here = rw here e
    by_test false false here = rw here e

-- repairs by stretches repair on a day the numbers that the stretches have there
list_any-repairs : (number day : ℕ) (stretches : List (Stretch ℕ))
    → list_any (repairs number day) (map repair_of stretches)
    ≡ list_any (λ value. value == number) (values_on day stretches)
list_any-repairs number day [] = refl
list_any-repairs number day (stretch ∷ later) =
    any-one (λ value. value == number) (has_day day stretch)
    (list_any (repairs number day) (map repair_of later)) stretch
    (filter (has_day day) later) (list_any-repairs number day later)

-- bills repair nothing
list_any-bills : (number day : ℕ) (stretches : List (Stretch Cell))
    → list_any (repairs number day) (map bill_of stretches) ≡ false
list_any-bills number day [] = refl
list_any-bills number day (stretch ∷ later) = list_any-bills number day later

-- repairs charge nothing
charges_by-repairs : (items : List Numbered) (day first : ℕ) (stretches : List (Stretch ℕ))
    → charges_by items day (numbered first (map repair_of stretches)) ≡ []
charges_by-repairs items day first [] = refl
charges_by-repairs items day first (stretch ∷ later) = charges_by-repairs items day (first + 1) later

-- a bill by a stretch that may have the day
charge-one : (held repaired : Bool) (charge : Charge) (charges : List Charge) (stretch : Stretch Charge)
    (kept : List (Stretch Charge))
    → repaired ≡ false → charge ≡ stretch.value
    → charges ≡ map (λ (s : Stretch Charge). s.value) kept
    → cond (held && not repaired) (charge ∷ []) [] ++ charges
    ≡ map (λ (s : Stretch Charge). s.value) (cond held (stretch ∷ kept) kept)
charge-one false repaired charge charges stretch kept none here later = later
charge-one true true charge charges stretch kept none here later = absurd (cc)
charge-one true false charge charges stretch kept none here later = ap₂ (λ a b. a ∷ b) here later

-- bills by stretches charge a day by the cells that the stretches have there, if nothing repairs them
charges_by-bills : (items : List Numbered) (day first : ℕ) (stretches : List (Stretch Cell))
    → ((number : ℕ) → first ≤ number → is_repaired items number day ≡ false)
    → charges_by items day (numbered first (map bill_of stretches))
    ≡ values_on day (billed_from first stretches)
charges_by-bills items day first [] none = refl
charges_by-bills items day first (stretch ∷ later) none =
    let charge : Charge = record { number = first; cell = stretch.value } in
    charge-one (has_day day stretch) (is_repaired items first day) charge
    (charges_by items day (numbered (first + 1) (map bill_of later)))
    (record { from = stretch.from; to = stretch.to; value = charge })
    (filter (has_day day) (billed_from (first + 1) later)) (none first (omega arith)) refl
    (charges_by-bills items day (first + 1) later (λ number past. none number (omega arith)))

module _ (items : List Numbered) (first d : ℕ) (repaired : List (Stretch ℕ)) (billed : List (Stretch Cell))
    (wrong : Option ℕ) (on_repaired : values_on d repaired ≡ option_to_list wrong) where
  -- the repairs and the bills by some stretches, numbered, and the items with them
  abbrev added : List Numbered
  added = numbered first (map repair_of repaired ++ map bill_of billed)

  abbrev all : List Numbered
  all = items ++ added

  -- on the day they repair the wrong number, if there is one
  is_repaired-added : (number : ℕ) → is_repaired added number d ≡ is_number wrong number
  is_repaired-added number =
      is_repaired-numbered number d first (map repair_of repaired ++ map bill_of billed)
      ∙ list_any-append (repairs number d) (map repair_of repaired) (map bill_of billed)
      ∙ ap₂ (λ a b. a || b)
      (list_any-repairs number d repaired ∙ ap (list_any (λ value. value == number)) on_repaired)
      (list_any-bills number d billed)
      ∙ or-false (is_number wrong number)

  -- the charges of the day: those that the repairs leave, and those of the bills
  charges_on-all : All (IsBelow first) items
      → ((number : ℕ) → first ≤ number → is_number wrong number ≡ false)
      → charges_on all d
      ≡ charges_but wrong (charges_on items d)
      ++ values_on d (billed_from (first + length (map repair_of repaired)) billed)
  charges_on-all below past =
      let behind = first + length (map repair_of repaired) in
      let none : (number : ℕ) → first ≤ number → is_repaired all number d ≡ false
      = λ number high. list_any-append (λ (item : Numbered). repairs number d item.1) items added
      ∙ ap₂ (λ a b. a || b) (is_repaired-past first items number d below high)
      (is_repaired-added number ∙ past number high) in
      flat_map-append (λ (item : Numbered). charge_of all d item.0 item.1) items added
      ∙ ap₂ (λ a b. a ++ b) (charges_by-taken items added d (is_number wrong) is_repaired-added items)
      (ap (charges_by all d) (numbered-append first (map repair_of repaired) (map bill_of billed))
      ∙ flat_map-append (λ (item : Numbered). charge_of all d item.0 item.1)
      (numbered first (map repair_of repaired)) (numbered behind (map bill_of billed))
      ∙ ap₂ (λ a b. a ++ b) (charges_by-repairs all d first repaired)
      (charges_by-bills all d behind billed (λ number high. none number (omega arith))))

-- the charges of a day, once new items with the numbers from one on are added
pub charges_on-added : (items : List Numbered) (due : ℕ → Option Cell) (first day count d : ℕ) → day ≤ d
    → d < day + count → All (IsBelow first) items
    → charges_on (items ++ numbered first (new_items (charges_on items) due day count)) d
    ≡ charges_after (charges_on items) due day count first d
unfolding new_repairs new_bills
charges_on-added items due first day count d low high below =
    let key = λ (on : ℕ). wrong_among (charges_on items on) (due on) in
    charges_on-all items first d (runs nat_eq key day count)
    (missing_runs (charges_on items) due day count) (key d)
    (runs-cover nat_eq nat_eq-same key day count d low high) below
    (λ number past. is_number-wrong first (charges_on items d) (due d) number
    (charges_on-below items first d below) past)

-- no charge is of no number
pub charges_but-none : (charges : List Charge) → charges_but None charges ≡ charges
charges_but-none [] = refl
charges_but-none (charge ∷ charges) = ap (λ later. charge ∷ later) (charges_but-none charges)

-- bills charge only the days that their stretches have
pub values_on-billed_from : (day first : ℕ) (stretches : List (Stretch Cell)) → values_on day stretches ≡ []
    → values_on day (billed_from first stretches) ≡ []
values_on-billed_from day first [] e = refl
values_on-billed_from day first (stretch ∷ later) e =
    by_test (has_day day stretch) refl (values_on-billed_from day (first + 1) later)
  where
    by_test : (there : Bool) → has_day day stretch ≡ there
        → (values_on day later ≡ [] → values_on day (billed_from (first + 1) later) ≡ [])
        → values_on day (billed_from first (stretch ∷ later)) ≡ []
    by_test true here rest = absurd (let taken = rw here at e in cc)
    by_test false here rest = rw here (rest (rw here at e))

-- a day on which there is neither a wrong charge nor a missing one stays as it is
charges_on-kept : (items : List Numbered) (first d : ℕ) (repaired : List (Stretch ℕ))
    (billed : List (Stretch Cell))
    → values_on d repaired ≡ [] → values_on d billed ≡ [] → All (IsBelow first) items
    → charges_on (items ++ numbered first (map repair_of repaired ++ map bill_of billed)) d
    ≡ charges_on items d
charges_on-kept items first d repaired billed no_repair no_bill below =
    charges_on-all items first d repaired billed None no_repair below (λ number past. refl)
    ∙ ap₂ (λ a b. a ++ b) (charges_but-none (charges_on items d))
    (values_on-billed_from d (first + length (map repair_of repaired)) billed no_bill)
    ∙ append-nil (charges_on items d)

-- a day outside the window keeps its charges
pub charges_on-outside : (items : List Numbered) (due : ℕ → Option Cell) (first day count d : ℕ)
    → (d < day) ⊎ (day + count ≤ d) → All (IsBelow first) items
    → charges_on (items ++ numbered first (new_items (charges_on items) due day count)) d
    ≡ charges_on items d
unfolding new_repairs new_bills
charges_on-outside items due first day count d (inl before) below =
    let wrong = λ (on : ℕ). wrong_among (charges_on items on) (due on) in
    let missing = λ (on : ℕ). missing_among (charges_on items on) (due on) in
    charges_on-kept items first d (runs nat_eq wrong day count) (runs same_cell missing day count)
    (runs-before nat_eq wrong day count d before) (runs-before same_cell missing day count d before) below
charges_on-outside items due first day count d (inr after) below =
    let wrong = λ (on : ℕ). wrong_among (charges_on items on) (due on) in
    let missing = λ (on : ℕ). missing_among (charges_on items on) (due on) in
    charges_on-kept items first d (runs nat_eq wrong day count) (runs same_cell missing day count)
    (runs-after nat_eq wrong day count d after) (runs-after same_cell missing day count d after) below
