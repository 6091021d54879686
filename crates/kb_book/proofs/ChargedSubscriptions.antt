-- A subscription whose days are charged by some cells is charged by those that are due, once its new items
-- are added, and these amount to what the days cost more.
use Rattle.std.proofs.Common.{◌≡◌, ℕ, ◌+◌, ◌≤◌, Bool, List, [], ◌∷◌, ◌++◌, length, Option, All, pos, ◌+ℤ◌}
use Rattle.std.proofs.Common.{refl, ap₂, arith}
use Rattle.std.proofs.lemmas.Int.{ints}
use Rattle.kb_days.specs.Calendar.{first_day, charged_days}
use Rattle.kb_sharing.specs.Sums.{sum_of}
use Rattle.kb_sharing.proofs.MemberSums.{sum_of-append}
use Rattle.kb_credit.specs.Items.{amount_of}
use Rattle.kb_due.specs.declared.cell.Cell.{Cell}
use Rattle.kb_tree.specs.declared.item.NewItem.{NewItem}
use Rattle.kb_tree.specs.declared.item.NewItem.TheVariants.{Bill, Repair}
use Rattle.kb_tree.specs.Items.{Numbered, charges_on, cell_at, numbered}
use Rattle.kb_tree.specs.Repairs.{new_items}
use Rattle.kb_tree.specs.Amounts.{amount, total, charged}
use Rattle.kb_tree.specs.Covers.{IsBelow}
use Rattle.kb_tree.proofs.SettledDays.{settled}
use Rattle.kb_tree.proofs.UntouchedDays.{untouched}
use Rattle.kb_tree.proofs.BalancedItems.{balanced}
use Rattle.kb_tree.proofs.AddedNumbers.{IsBelow-higher}
use Rattle.std.proofs.lemmas.List.Elements.{All-weaker}
use Rattle.kb_tree.specs.Numbers.{AreBelow}
use Rattle.kb_tree.specs.Issues.{SubscriptionItems, line_of, lines_of, items_due}
use Rattle.kb_book.specs.BilledBooks.{IsCharged}
use Rattle.kb_book.specs.AddedItems.{AreAdded}
use Rattle.kb_book.proofs.KnownCells.{knows-added}

-- a line has the amount of its item
amount_of-line_of : (sub : ℕ) (recurring : Bool) (cells : ℕ → Option Cell) (item : NewItem)
    → amount_of (line_of sub recurring cells item) ≡ amount cells item
amount_of-line_of sub recurring cells (Bill from to cell) = refl
amount_of-line_of sub recurring cells (Repair of from to) = refl

-- the lines of items amount to what these do
sum_of-lines_of : (sub : ℕ) (recurring : Bool) (cells : ℕ → Option Cell) (items : List NewItem)
    → sum_of amount_of (lines_of sub recurring cells items) ≡ total cells items
sum_of-lines_of sub recurring cells [] = refl
sum_of-lines_of sub recurring cells (item ∷ later) =
    ap₂ (λ a b. a +ℤ b) (amount_of-line_of sub recurring cells item)
    (sum_of-lines_of sub recurring cells later)

-- items with the new ones behind them, whose numbers begin with one
abbrev pub with_new : (ℕ → Option Cell) → ℕ → List Numbered → List Numbered
with_new due number items = items ++ numbered number (new_items (charges_on items) due first_day charged_days)

-- the same of a subscription: its fees, and then its recurring charges
abbrev pub items_after : (ℕ → Option Cell) → (ℕ → Option Cell) → ℕ → SubscriptionItems → SubscriptionItems
items_after fee due number items = record {
  fees = with_new fee number items.fees;
  recurring = with_new due (number + length (new_items (charges_on items.fees) fee first_day charged_days))
      items.recurring;
}

-- numbers that are below one are below a higher one
pub below-higher : (first past : ℕ) (items : List Numbered) → first ≤ past → All (IsBelow first) items
    → All (IsBelow past) items
below-higher first past items high below =
    All-weaker (IsBelow first) (IsBelow past) (IsBelow-higher first past high) items below

pub AreBelow-higher : (first past : ℕ) (items : SubscriptionItems) → first ≤ past → AreBelow first items
    → AreBelow past items
AreBelow-higher first past items high below = record {
  fees = below-higher first past items.fees high below.fees;
  recurring = below-higher first past items.recurring high below.recurring;
}

module _ (old_fee old_due fee due : ℕ → Option Cell) (number : ℕ) (items : SubscriptionItems)
    (charged_by_old : IsCharged old_fee old_due items) where
  -- with the new items each day is charged by what is due
  pub items-charged : AreBelow number items → IsCharged fee due (items_after fee due number items)
  items-charged below =
      let fees = new_items (charges_on items.fees) fee first_day charged_days in
      let recurring = new_items (charges_on items.recurring) due first_day charged_days in
      let behind = below-higher number (number + length fees) items.recurring (omega arith) below.recurring in
      record {
        fees = settled items.fees old_fee fee number first_day charged_days charged_by_old.fees below.fees;
        recurring =
            settled items.recurring old_due due (number + length fees) first_day charged_days
            charged_by_old.recurring behind;
        fee_cells = knows-added items.fees number fees charged_by_old.fee_cells below.fees;
        recurring_cells =
            knows-added items.recurring (number + length fees) recurring charged_by_old.recurring_cells
            behind;
      }

  -- the new items amount to what the days cost more than before
  pub items-balanced : (sub : ℕ)
      → sum_of amount_of (items_due fee due first_day charged_days number sub items).lines
      +ℤ pos (charged old_fee first_day charged_days + charged old_due first_day charged_days)
      ≡ pos (charged fee first_day charged_days + charged due first_day charged_days)
  items-balanced sub =
      let fees = new_items (charges_on items.fees) fee first_day charged_days in
      let recurring = new_items (charges_on items.recurring) due first_day charged_days in
      let fee_lines = lines_of sub Bool.false (cell_at items.fees) fees in
      let due_lines = lines_of sub Bool.true (cell_at items.recurring) recurring in
      let both = sum_of-append amount_of fee_lines due_lines in
      let fee_sum = sum_of-lines_of sub Bool.false (cell_at items.fees) fees in
      let due_sum = sum_of-lines_of sub Bool.true (cell_at items.recurring) recurring in
      let fee_total = balanced (cell_at items.fees) (charges_on items.fees) old_fee fee first_day charged_days
      charged_by_old.fees (λ d low high. charged_by_old.fee_cells d) in
      let due_total =
      balanced (cell_at items.recurring) (charges_on items.recurring) old_due due first_day charged_days
      charged_by_old.recurring (λ d low high. charged_by_old.recurring_cells d) in
      omega (arith, ints)

  -- none of them has a day whose cell stays
  pub fees-added : AreAdded old_fee fee items.fees (items_after fee due number items).fees
  fees-added = record {
    first = number;
    items = new_items (charges_on items.fees) fee first_day charged_days;
    added = refl;
    untouched = untouched (charges_on items.fees) old_fee fee first_day charged_days charged_by_old.fees;
  }

  pub recurring-added : AreAdded old_due due items.recurring (items_after fee due number items).recurring
  recurring-added = record {
    first = number + length (new_items (charges_on items.fees) fee first_day charged_days);
    items = new_items (charges_on items.recurring) due first_day charged_days;
    added = refl;
    untouched = untouched (charges_on items.recurring) old_due due first_day charged_days
        charged_by_old.recurring;
  }
