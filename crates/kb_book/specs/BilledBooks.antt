-- A book that is billed: each day is charged by what is due, and the invoices total what that costs.
use Rattle.std.specs.Prelude.{ℕ, ◌+◌, ◌≡◌, List, [], ◌∷◌, All, Option, Some, ⊤, ℤ, pos, ◌+ℤ◌, ◌-ℤ◌}
use Rattle.std.specs.Int.{int_max}
use Rattle.kb_days.specs.Calendar.{first_day, charged_days}
use Rattle.kb_credit.specs.declared.row.Row.{Row}
use Rattle.kb_credit.specs.InvoiceRows.{charged, credit, unpaid}
use Rattle.kb_payment.specs.PaymentSums.{PaymentsValue, paid_on}
use Rattle.kb_due.specs.declared.cell.Cell.{Cell}
use Rattle.kb_due.specs.Facts.{FactsValue}
use Rattle.kb_due.specs.DueDays.{due_at, fee_at}
use Rattle.kb_tree.specs.Items.{Charge, Numbered, charges_on, cell_at}
use Rattle.kb_tree.specs.Repairs.{IsSettled}
use Rattle.kb_book.specs.Worlds.{WorldValue}
use Rattle.kb_tree.specs.Issues.{SubscriptionItems}
use Rattle.kb_book.specs.Books.{BookValue}
use Rattle.kb_book.specs.Dues.{facts_of, charged_by}

-- each charge of a day is by the cell of the item of its number
abbrev pub KnowsCells : List Numbered → Type 0
KnowsCells items = (day : ℕ)
    → All (λ (charge : Charge). cell_at items charge.number ≡ Some charge.cell) (charges_on items day)

-- the days of a subscription are charged by these fee cells, and by these due cells: each day has exactly one
-- charge by its cell, or none where there is no cell
pub record IsCharged (fee due : ℕ → Option Cell) (items : SubscriptionItems) : Type 0 where
  pub fees : IsSettled (charges_on items.fees) fee first_day charged_days
  pub recurring : IsSettled (charges_on items.recurring) due first_day charged_days
  pub fee_cells : KnowsCells items.fees
  pub recurring_cells : KnowsCells items.recurring

-- the same of all subscriptions from a place on, at a billed date
abbrev pub AreCharged : FactsValue → Option ℕ → ℕ → List SubscriptionItems → Type 0
AreCharged facts billed sub [] = ⊤
AreCharged facts billed sub (items ∷ later) =
    IsCharged (fee_at facts sub billed) (due_at facts sub billed) items
    × AreCharged facts billed (sub + 1) later

-- each day has exactly the charge of one billing from scratch, and the invoices total what all days cost,
-- with what is charged and credited beside them
pub record IsBilled (world : WorldValue) (book : BookValue) : Type 0 where
  pub days : AreCharged (facts_of world book) book.billed 0 book.charges
  pub totals : charged book.invoices.rows ≡ charged_by world book

-- what is paid by payments on the invoices that are numbered from one on, as many as there are rows
abbrev pub paid_by_number : PaymentsValue → ℕ → List Row → ℤ
paid_by_number payments number [] = pos 0
paid_by_number payments number (row ∷ rows) =
    paid_on payments number +ℤ paid_by_number payments (number + 1) rows

-- what is paid on all invoices of a book
abbrev pub paid_in : BookValue → ℤ
paid_in book = paid_by_number book.payments 1 book.invoices.rows

-- credit is by how much payments exceed charges, and what is unpaid by how much charges exceed payments
pub record IsEven (world : WorldValue) (book : BookValue) : Type 0 where
  pub credit : credit book.invoices.rows ≡ int_max (pos 0) (paid_in book -ℤ charged_by world book)
  pub unpaid : unpaid book.invoices.rows ≡ int_max (pos 0) (charged_by world book -ℤ paid_in book)
