-- The numbers of all items, with those that are issued, are below the one past these.
use Rattle.std.proofs.Common.{◌≡◌, ℕ, ◌+◌, ◌≤◌, Bool, List, [], ◌∷◌, ◌++◌, length, map, Option, All, refl}
use Rattle.std.proofs.Common.{arith, length-append}
use Rattle.std.proofs.lemmas.List.{length-map}
use Rattle.std.proofs.lemmas.List.Elements.{All-nil, All-cons, All-head, All-tail, All-weaker}
use Rattle.kb_days.specs.Calendar.{first_day, charged_days}
use Rattle.kb_credit.specs.declared.line.Line.{Line}
use Rattle.kb_credit.specs.InvoiceRows.{InvoicesValue}
use Rattle.kb_credit.specs.Levelling.{level_items}
use Rattle.kb_due.specs.declared.cell.Cell.{Cell}
use Rattle.kb_due.specs.Facts.{FactsValue}
use Rattle.kb_due.specs.DueDays.{due_at, fee_at}
use Rattle.kb_tree.specs.declared.item.NewItem.{NewItem}
use Rattle.kb_tree.specs.Items.{charges_on, cell_at}
use Rattle.kb_tree.specs.Repairs.{new_items}
use Rattle.kb_tree.proofs.AddedNumbers.{below-added}
use Rattle.kb_tree.specs.Numbers.{AreBelow}
use Rattle.kb_payment.specs.PaymentSums.{PaymentsValue}
use Rattle.kb_tree.specs.Issues.{SubscriptionItems, Issue, lines_of, items_due, issue_from}
use Rattle.kb_book.specs.Steps.{with_invoice, with_paid}
use Rattle.kb_book.proofs.ChargedSubscriptions.{items_after, below-higher, AreBelow-higher}
use Rattle.kb_book.proofs.BilledRows.{billed_rows}

-- as many lines as items
length-lines_of : (sub : ℕ) (recurring : Bool) (cells : ℕ → Option Cell) (items : List NewItem)
    → length (lines_of sub recurring cells items) ≡ length items
length-lines_of sub recurring cells [] = refl
length-lines_of sub recurring cells (item ∷ later) =
    let rest = length-lines_of sub recurring cells later in omega (arith, rest)

-- of a subscription
items-below : (fee due : ℕ → Option Cell) (number sub : ℕ) (items : SubscriptionItems) → AreBelow number items
    → AreBelow (number + length (items_due fee due first_day charged_days number sub items).lines)
    (items_after fee due number items)
items-below fee due number sub items below =
    let fees = new_items (charges_on items.fees) fee first_day charged_days in
    let recurring = new_items (charges_on items.recurring) due first_day charged_days in
    let fee_lines = lines_of sub Bool.false (cell_at items.fees) fees in
    let due_lines = lines_of sub Bool.true (cell_at items.recurring) recurring in
    let past = number + length (fee_lines ++ due_lines) in
    let behind = number + length fees in
    let fee_count = length-lines_of sub Bool.false (cell_at items.fees) fees in
    let due_count = length-lines_of sub Bool.true (cell_at items.recurring) recurring in
    let both = length-append fee_lines due_lines in
    let first = below-added items.fees fee number first_day charged_days below.fees in
    let second = below-added items.recurring due behind first_day charged_days
    (below-higher number behind items.recurring (omega arith) below.recurring) in
    let after = items_after fee due number items in
    record {
      fees = below-higher behind past after.fees (omega (arith, fee_count, due_count, both)) first;
      recurring =
          below-higher (behind + length recurring) past after.recurring
          (omega (arith, fee_count, due_count, both))
          second;
    }

module _ (facts : FactsValue) (billed : Option ℕ) where
  -- what is issued for one of the subscriptions
  abbrev one_issue : ℕ → ℕ → SubscriptionItems → Issue
  one_issue number sub items =
      items_due (fee_at facts sub billed) (due_at facts sub billed) first_day charged_days number sub items

  -- and for all from one on
  abbrev all_issues : ℕ → ℕ → List SubscriptionItems → Issue
  all_issues number sub charges = issue_from facts billed first_day charged_days number sub charges

  -- of all subscriptions
  pub issue-below : (number sub : ℕ) (charges : List SubscriptionItems) → All (AreBelow number) charges
      → All (AreBelow (number + length (all_issues number sub charges).lines))
      (all_issues number sub charges).charges
  issue-below number sub [] below = All-nil (AreBelow (number + length (all_issues number sub []).lines))
  issue-below number sub (items ∷ later) below =
      let one = one_issue number sub items in
      let next = number + length one.lines in
      let rest = all_issues next (sub + 1) later in
      let past = number + length (one.lines ++ rest.lines) in
      let both = length-append one.lines rest.lines in
      let after = items_after (fee_at facts sub billed) (due_at facts sub billed) number items in
      let here = items-below (fee_at facts sub billed) (due_at facts sub billed) number sub items
      (All-head (AreBelow number) items later below) in
      let others = issue-below next (sub + 1) later
      (All-weaker (AreBelow number) (AreBelow next)
      (λ one below. AreBelow-higher number next one (omega arith) below)
      later (All-tail (AreBelow number) items later below)) in
      All-cons (AreBelow past) after rest.charges
      (AreBelow-higher next past after (omega (arith, both)) here)
      (All-weaker (AreBelow (next + length rest.lines)) (AreBelow past)
      (λ one below. AreBelow-higher (next + length rest.lines) past one (omega (arith, both)) below)
      rest.charges others)

-- an invoice has as many items more as lines
with_invoice-count : (invoices : InvoicesValue) (today : ℕ) (lines : List Line)
    → length (with_invoice invoices today lines).items ≡ length invoices.items + length lines
with_invoice-count invoices today [] = omega arith
with_invoice-count invoices today (line ∷ later) =
    let number : Line → ℕ × Line = λ line. (length invoices.rows + 1, line) in
    omega (
      arith,
      length-append invoices.items (map number (line ∷ later)),
      length-map (line ∷ later) number,
    )

-- so all that is billed has at least these
pub billed_rows-count : (payments : PaymentsValue) (invoices : InvoicesValue) (today : ℕ) (lines : List Line)
    → length invoices.items + length lines ≤ length (billed_rows payments invoices today lines).items
billed_rows-count payments invoices today lines =
    let made = with_paid payments (with_invoice invoices today lines) in
    omega (
      arith,
      with_invoice-count invoices today lines,
      length-append made.items (level_items made.rows),
    )
