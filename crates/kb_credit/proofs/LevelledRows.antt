-- The passes over open invoices do to the rows what levelling does.
use Rattle.std.proofs.Common.{◌≡◌, ℕ, zero, suc, ◌+◌, List, [], ◌∷◌, ◌++◌, ℤ, pos, negsuc, neg_ℤ, ◌+ℤ◌, ◌-ℤ◌}
use Rattle.std.proofs.Common.{Bool, true, false, cond, int_lt, ◌≤ℤ◌, map, refl, ap, ap₂, ◌∙◌, sym, arith}
use Rattle.std.specs.Int.{int_min, int_max}
use Rattle.std.proofs.lemmas.List.{map-append}
use Rattle.std.proofs.lemmas.Int.{ints}
use Rattle.kb_credit.specs.declared.row.Row.{Row}
use Rattle.kb_credit.specs.declared.open_invoice.OpenInvoice.{OpenInvoice}
use Rattle.kb_credit.specs.declared.adjustment.Adjustment.{Adjustment}
use Rattle.kb_credit.specs.InvoiceRows.{balance_of, credit}
use Rattle.kb_credit.specs.Levelling.{adjust, with_made, used_on, with_used, levelled_rows, adjustment}
use Rattle.kb_credit.specs.Levelling.{made_items, used_items, level_items}
use Rattle.kb_credit.specs.Private.OpenInvoices.{opening, opened}
use Rattle.kb_credit.specs.Private.Passes.{adjusting, made, taken, with_all_made, all_made, all_used}
use Rattle.kb_credit.specs.Private.Passes.{still_open}
use Rattle.kb_credit.specs.Private.Passes.{level_adjustments, item_of}
use Rattle.kb_credit.proofs.RowBalances.{balance_of-adjust, balance_of-with_made, int_max_twice}
use Rattle.kb_credit.proofs.RowBalances.{left-least, taken-none}

-- what the second pass takes from an invoice after the first
pub used_on-with_made : (left : ℤ) (row : Row) → used_on left (with_made row) ≡ taken left (balance_of row)
used_on-with_made left row =
    ap (λ balance. int_min left (int_max (pos 0) balance)) (balance_of-with_made row)
    ∙ ap (int_min left) (int_max_twice (balance_of row))

-- its balance then
pub balance_of-used : (left : ℤ) (row : Row)
    → balance_of (adjust (with_made row) (neg_ℤ (used_on left (with_made row))))
    ≡ int_max (pos 0) (balance_of row) -ℤ taken left (balance_of row)
balance_of-used left row =
    balance_of-adjust (with_made row) (neg_ℤ (used_on left (with_made row)))
    ∙ ap₂ (λ balance used. balance +ℤ neg_ℤ used) (balance_of-with_made row) (used_on-with_made left row)
    ∙ (let whole = int_max (pos 0) (balance_of row) in
    let less = taken left (balance_of row) in
    let e : whole +ℤ neg_ℤ less ≡ whole -ℤ less = omega (arith, ints) in e)

-- nothing is taken from a balance of 0
left_same : (left : ℤ) → left -ℤ pos 0 ≡ left
left_same left = omega (arith, ints)

-- the passes over an invoice in front of others
pub all_made-opening : (invoice day : ℕ) (balance : ℤ) (later : List OpenInvoice)
    → all_made (opening invoice day balance later) ≡ adjusting invoice (made balance) (all_made later)
all_made-opening invoice day (pos zero) later = refl
all_made-opening invoice day (pos (suc n)) later = refl
all_made-opening invoice day (negsuc n) later = refl

with_all_made-opening : (credit : ℤ) (invoice day : ℕ) (balance : ℤ) (later : List OpenInvoice)
    → with_all_made credit (opening invoice day balance later)
    ≡ with_all_made (credit +ℤ made balance) later
with_all_made-opening credit invoice day (pos zero) later =
    ap (λ sum. with_all_made sum later) (let e : credit ≡ credit +ℤ pos 0 = omega (arith, ints) in e)
with_all_made-opening credit invoice day (pos (suc n)) later = refl
with_all_made-opening credit invoice day (negsuc n) later = refl

pub all_used-opening : (left : ℤ) (invoice day : ℕ) (balance : ℤ) (later : List OpenInvoice) → pos 0 ≤ℤ left
    → all_used left (opening invoice day balance later)
    ≡ adjusting invoice (neg_ℤ (taken left balance)) (all_used (left -ℤ taken left balance) later)
all_used-opening left invoice day (pos zero) later whole = rw (taken-none left whole, left_same left)
all_used-opening left invoice day (pos (suc n)) later whole = refl
all_used-opening left invoice day (negsuc n) later whole = refl

still_open-opening : (left : ℤ) (invoice day : ℕ) (balance : ℤ) (later : List OpenInvoice) → pos 0 ≤ℤ left
    → still_open left (opening invoice day balance later)
    ≡ opening invoice day (int_max (pos 0) balance -ℤ taken left balance)
    (still_open (left -ℤ taken left balance) later)
still_open-opening left invoice day (pos zero) later whole = rw (taken-none left whole, left_same left)
still_open-opening left invoice day (pos (suc n)) later whole = refl
still_open-opening left invoice day (negsuc n) later whole = refl

-- the item of an adjustment in front of others
item_of-adjusting : (invoice : ℕ) (amount : ℤ) (later : List Adjustment)
    → map item_of (adjusting invoice amount later) ≡ adjustment invoice amount (map item_of later)
item_of-adjusting invoice (pos zero) later = refl
item_of-adjusting invoice (pos (suc n)) later = refl
item_of-adjusting invoice (negsuc n) later = refl

-- the items of each pass
made_items-opened : (invoice : ℕ) (rows : List Row)
    → map item_of (all_made (opened invoice rows)) ≡ made_items invoice rows
made_items-opened invoice [] = refl
made_items-opened invoice (row ∷ rows) =
    ap (map item_of) (all_made-opening invoice row.day (balance_of row) (opened (invoice + 1) rows))
    ∙ item_of-adjusting invoice (made (balance_of row)) (all_made (opened (invoice + 1) rows))
    ∙ ap (adjustment invoice (made (balance_of row))) (made_items-opened (invoice + 1) rows)

used_items-opened : (left : ℤ) (invoice : ℕ) (rows : List Row) → pos 0 ≤ℤ left
    → map item_of (all_used left (opened invoice rows)) ≡ used_items left invoice (map with_made rows)
used_items-opened left invoice [] whole = refl
used_items-opened left invoice (row ∷ rows) whole =
    let less = taken left (balance_of row) in
    ap (map item_of)
    (all_used-opening left invoice row.day (balance_of row) (opened (invoice + 1) rows) whole)
    ∙ item_of-adjusting invoice (neg_ℤ less) (all_used (left -ℤ less) (opened (invoice + 1) rows))
    ∙ ap (adjustment invoice (neg_ℤ less))
    (used_items-opened (left -ℤ less) (invoice + 1) rows (left-least left (balance_of row)))
    ∙ ap (λ used. adjustment invoice (neg_ℤ used)
    (used_items (left -ℤ used) (invoice + 1) (map with_made rows)))
    (sym (used_on-with_made left row))

-- the credit after the first pass
with_all_made-opened : (sum : ℤ) (invoice : ℕ) (rows : List Row)
    → with_all_made sum (opened invoice rows) +ℤ credit rows ≡ sum +ℤ credit (map with_made rows)
with_all_made-opened sum invoice [] = refl
with_all_made-opened sum invoice (row ∷ rows) =
    let first = with_all_made-opening sum invoice row.day (balance_of row) (opened (invoice + 1) rows) in
    let later = with_all_made-opened (sum +ℤ made (balance_of row)) (invoice + 1) rows in
    rw first (
    let rest = with_all_made (sum +ℤ made (balance_of row)) (opened (invoice + 1) rows) in
    let more = made (balance_of row) in
    let before = credit rows in
    let after = credit (map with_made rows) in
    let e : rest +ℤ (row.adjusted +ℤ before) ≡ sum +ℤ ((row.adjusted +ℤ more) +ℤ after) =
    omega (arith, ints) in
    e)

pub credit-with_made : (invoice : ℕ) (rows : List Row)
    → with_all_made (credit rows) (opened invoice rows) ≡ credit (map with_made rows)
credit-with_made invoice rows =
    let both = with_all_made-opened (credit rows) invoice rows in omega (arith, ints)

-- making credit takes none
pub made-least : (balance : ℤ) → pos 0 ≤ℤ made balance
made-least balance = by (int_lt balance (pos 0)) refl
  where
    by : (test : Bool) → int_lt balance (pos 0) ≡ test → pos 0 ≤ℤ cond test (neg_ℤ balance) (pos 0)
    by true below = omega (arith, ints)
    by false above = omega (arith, ints)

credit-made_more : (rows : List Row) → credit rows ≤ℤ credit (map with_made rows)
credit-made_more [] = omega (arith, ints)
credit-made_more (row ∷ rows) =
    let here = made-least (balance_of row) in
    let later = credit-made_more rows in
    let more = made (balance_of row) in
    let e : (row.adjusted +ℤ credit rows) ≤ℤ ((row.adjusted +ℤ more) +ℤ credit (map with_made rows)) =
    omega (arith, ints) in
    e

pub credit-with_made-least : (rows : List Row) → pos 0 ≤ℤ credit rows → pos 0 ≤ℤ credit (map with_made rows)
credit-with_made-least rows whole = let more = credit-made_more rows in omega (arith, ints)

-- the items of a levelling
pub level_items-opened : (rows : List Row) → pos 0 ≤ℤ credit rows
    → map item_of (level_adjustments (credit rows) (opened 1 rows)) ≡ level_items rows
level_items-opened rows whole =
    map-append item_of (all_made (opened 1 rows))
    (all_used (with_all_made (credit rows) (opened 1 rows)) (opened 1 rows))
    ∙ ap₂ (λ front back. front ++ back) (made_items-opened 1 rows)
    (ap (λ left. map item_of (all_used left (opened 1 rows))) (credit-with_made 1 rows)
    ∙ used_items-opened (credit (map with_made rows)) 1 rows (credit-with_made-least rows whole))

-- what is open after a levelling
opened-used : (left : ℤ) (invoice : ℕ) (rows : List Row) → pos 0 ≤ℤ left
    → still_open left (opened invoice rows) ≡ opened invoice (with_used left (map with_made rows))
opened-used left invoice [] whole = refl
opened-used left invoice (row ∷ rows) whole =
    let less = taken left (balance_of row) in
    still_open-opening left invoice row.day (balance_of row) (opened (invoice + 1) rows) whole
    ∙ ap₂ (λ balance later. opening invoice row.day balance later)
    (sym (balance_of-used left row))
    (opened-used (left -ℤ less) (invoice + 1) rows (left-least left (balance_of row))
    ∙ ap (λ used. opened (invoice + 1) (with_used (left -ℤ used) (map with_made rows)))
    (sym (used_on-with_made left row)))

pub opened-levelled_rows : (rows : List Row) → pos 0 ≤ℤ credit rows
    → still_open (with_all_made (credit rows) (opened 1 rows)) (opened 1 rows)
    ≡ opened 1 (levelled_rows rows)
opened-levelled_rows rows whole =
    ap (λ left. still_open left (opened 1 rows)) (credit-with_made 1 rows)
    ∙ opened-used (credit (map with_made rows)) 1 rows (credit-with_made-least rows whole)
