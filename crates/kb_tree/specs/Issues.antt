-- The items that bring what subscriptions are charged up to what is due, and their lines on an invoice.
use Rattle.std.specs.Prelude.{ℕ, ◌+◌, Bool, true, false, List, [], ◌∷◌, ◌++◌, length, Option}
use Rattle.kb_credit.specs.declared.line.Line.{Line}
use Rattle.kb_credit.specs.declared.line.Line.TheVariants as lines
use Rattle.kb_due.specs.declared.cell.Cell.{Cell}
use Rattle.kb_due.specs.Facts.{FactsValue}
use Rattle.kb_due.specs.DueDays.{due_at, fee_at}
use Rattle.kb_tree.specs.declared.item.NewItem.{NewItem}
use Rattle.kb_tree.specs.declared.item.NewItem.TheVariants.{Bill, Repair}
use Rattle.kb_tree.specs.Items.{Numbered, charges_on, cell_at, numbered}
use Rattle.kb_tree.specs.Repairs.{new_items}
use Rattle.kb_tree.specs.Amounts.{amount}

-- The items of a subscription's fees, and of its recurring charges, each with its number, in order of issue.
pub record SubscriptionItems : Type 0 where
  pub fees : List Numbered
  pub recurring : List Numbered

-- a subscription without an item
abbrev pub no_items : SubscriptionItems
no_items = record { fees = []; recurring = [] }

-- an item as a line of an invoice, with its amount, by the cells of the items so far
abbrev pub line_of : ℕ → Bool → (ℕ → Option Cell) → NewItem → Line
line_of sub recurring cells (Bill from to cell) =
    lines.Bill sub recurring from to (amount cells (Bill from to cell))
line_of sub recurring cells (Repair of from to) =
    lines.Repair sub of from to (amount cells (Repair of from to))

abbrev pub lines_of : ℕ → Bool → (ℕ → Option Cell) → List NewItem → List Line
lines_of sub recurring cells [] = []
lines_of sub recurring cells (item ∷ later) =
    line_of sub recurring cells item ∷ lines_of sub recurring cells later

-- what is issued: its lines, and the items of all subscriptions with the new ones
pub record Issue : Type 0 where
  pub lines : List Line
  pub charges : List SubscriptionItems

abbrev pub nothing : Issue
nothing = record { lines = []; charges = [] }

-- The new items of the fees, and then of the recurring charges, of the subscription at a place. They get the
-- numbers from one on.
abbrev pub subscription_issue : ℕ → ℕ → SubscriptionItems → List NewItem → List NewItem → Issue
subscription_issue number sub items fees recurring = record {
  lines = lines_of sub false (cell_at items.fees) fees
      ++ lines_of sub true (cell_at items.recurring) recurring;
  charges = record {
    fees = items.fees ++ numbered number fees;
    recurring = items.recurring ++ numbered (number + length fees) recurring;
  } ∷ [];
}

-- the same for due and fee cells, over a number of days from one on
abbrev pub items_due : (ℕ → Option Cell) → (ℕ → Option Cell) → ℕ → ℕ → ℕ → ℕ → SubscriptionItems → Issue
items_due fee due day count number sub items =
    subscription_issue number sub items (new_items (charges_on items.fees) fee day count)
    (new_items (charges_on items.recurring) due day count)

-- one after another
abbrev pub both_issues : Issue → Issue → Issue
both_issues one other = record { lines = one.lines ++ other.lines; charges = one.charges ++ other.charges }

-- one issue, and then those after it, whose numbers go on
abbrev pub then_issue : ℕ → Issue → (ℕ → Issue) → Issue
then_issue number one later = both_issues one (later (number + length one.lines))

-- The new items of the subscriptions from a place on, in order of creation, at a billed date. Their numbers
-- begin with one.
abbrev pub issue_from : FactsValue → Option ℕ → ℕ → ℕ → ℕ → ℕ → List SubscriptionItems → Issue
issue_from facts billed day count number sub [] = nothing
issue_from facts billed day count number sub (items ∷ later) =
    then_issue number
    (items_due (fee_at facts sub billed) (due_at facts sub billed) day count number sub items)
    (λ next. issue_from facts billed day count next (sub + 1) later)
