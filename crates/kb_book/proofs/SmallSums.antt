-- By how much one accepted command makes the sums of a book grow.
use Rattle.std.proofs.Common.{◌≡◌, ℕ, zero, suc, ◌+◌, ◌^◌, ◌≤◌, nat_lt, List, [], ◌∷◌, length, ℤ, pos}
use Rattle.std.proofs.Common.{nat_abs, ◌-◌, None, refl, ap, ◌∙◌, arith}
use Rattle.std.proofs.lemmas.Int.{ints}
use Rattle.std.proofs.lemmas.Bool.{ltb-false}
use Rattle.kb_sharing.specs.Sums.{sum_of}
use Rattle.kb_credit.specs.declared.row.Row.{Row}
use Rattle.kb_credit.specs.declared.line.Line.{Line}
use Rattle.kb_credit.specs.Items.{amount_of}
use Rattle.kb_credit.specs.Sizes.{size_of}
use Rattle.kb_credit.specs.InvoiceRows.{InvoicesValue}
use Rattle.kb_credit.proofs.SizeLaws.{size_of-push}
use Rattle.kb_credit.proofs.GrownSizes.{payments-issued, payments-paid_at, payments-levelled}
use Rattle.kb_payment.specs.PaymentSums.{PaymentsValue, Moves}
use Rattle.kb_codec.specs.declared.command.Command.{Command}
use Rattle.kb_codec.specs.declared.command.Command.TheVariants as kinds
use Rattle.kb_codec.specs.declared.action.Action.TheVariants as actions
use Rattle.kb_book.specs.declared.refusal.Refusal.TheVariants as refusal
use Rattle.kb_book.specs.Worlds.{WorldValue}
use Rattle.kb_book.specs.Books.{BookValue}
use Rattle.kb_book.specs.Rows.{first_refusal}
use Rattle.kb_book.specs.Commands.{own_rows, max_charge, own_lines}
use Rattle.kb_book.specs.Steps.{with_invoice, with_paid}
use Rattle.kb_book.proofs.InvoicedAttempts.{AreInvoiced}
use Rattle.kb_book.proofs.PaidRows.{with_paid-moved, with_paid-none}
use Rattle.kb_book.proofs.NotedRows.{with_paid-new}
use Rattle.kb_book.proofs.PaidMoves.{MovesOnce, nat_abs-pos}
use Rattle.kb_book.proofs.BilledRows.{billed_rows}
use Rattle.kb_book.proofs.KeptTotals.{totals_size, totals_size-with_paid, totals_size-levelled}
use Rattle.kb_book.proofs.AcceptedPayments.{first-none}

-- what all that is paid weighs, each without its sign
abbrev pub paid_size : InvoicesValue → ℕ
paid_size invoices = size_of (λ (row : Row). row.paid) invoices.rows

-- an invoice makes the totals grow by its own at most
totals-with_invoice : (invoices : InvoicesValue) (today : ℕ) (lines : List Line)
    → totals_size (with_invoice invoices today lines) ≤ totals_size invoices + nat_abs
    (sum_of amount_of lines)
totals-with_invoice invoices today [] = omega arith
totals-with_invoice invoices today (line ∷ later) =
    let row : Row = record {
      day = today;
      total = sum_of amount_of (line ∷ later);
      adjusted = pos 0;
      paid = pos 0;
    } in
    omega (arith, size_of-push (λ (row : Row). row.total) invoices.rows row)

-- so does all that is billed
pub totals-billed_rows : (payments : PaymentsValue) (invoices : InvoicesValue) (today : ℕ) (lines : List Line)
    → totals_size (billed_rows payments invoices today lines)
    ≤ totals_size invoices + nat_abs (sum_of amount_of lines)
totals-billed_rows payments invoices today lines =
    let made = with_invoice invoices today lines in
    omega (
      arith,
      totals_size-levelled (with_paid payments made),
      totals_size-with_paid payments made,
      totals-with_invoice invoices today lines,
    )

-- nothing is paid on a new invoice
paid-with_invoice : (payments : PaymentsValue) (invoices : InvoicesValue) (today : ℕ) (lines : List Line)
    → AreInvoiced (length invoices.rows) payments
    → paid_size (with_paid payments (with_invoice invoices today lines))
    ≡ paid_size (with_paid payments invoices)
paid-with_invoice payments invoices today [] invoiced = refl
paid-with_invoice payments invoices today (line ∷ later) invoiced =
    ap paid_size (with_paid-new payments invoices today (line ∷ later) invoiced)
    ∙ payments-issued (with_paid payments invoices) today (line ∷ later)

-- payments that move once make what is paid grow by the amount at most
paid-moved : (old new : PaymentsValue) (invoices : InvoicesValue) (invoice : ℕ) (amount : ℤ)
    → Moves old new invoice amount → with_paid old invoices ≡ invoices
    → paid_size (with_paid new invoices) ≤ paid_size invoices + nat_abs amount
paid-moved old new invoices zero amount moves is =
    omega (arith, ap paid_size (with_paid-none old new invoices amount moves is))
paid-moved old new invoices (suc place) amount moves is =
    omega (
      arith,
      ap paid_size (with_paid-moved old new invoices (suc place) amount moves (omega arith) is),
      payments-paid_at (suc place - 1) amount invoices.rows,
    )

-- so does all that is billed
pub paid-billed_rows : (old new : PaymentsValue) (invoices : InvoicesValue) (today : ℕ) (lines : List Line)
    → with_paid old invoices ≡ invoices → MovesOnce old new → AreInvoiced (length invoices.rows) new
    → paid_size (billed_rows new invoices today lines) ≤ paid_size invoices + 2 ^ 64
paid-billed_rows old new invoices today lines is moves invoiced =
    omega (
      arith,
      payments-levelled (with_paid new (with_invoice invoices today lines)),
      paid-with_invoice new invoices today lines invoiced,
      paid-moved old new invoices moves.0 moves.1 moves.3 is,
      moves.2,
    )

-- no line of an accepted charge or credit is too large
charge-small : (world : WorldValue) (book : BookValue) (today amount : ℕ)
    → first_refusal ((nat_lt max_charge amount, refusal.AmountTooLarge) ∷ []) ≡ None → amount ≤ max_charge
charge-small world book today amount none =
    ltb-false max_charge amount (first-none (nat_lt max_charge amount) refusal.AmountTooLarge [] none).0

pub own-small : (world : WorldValue) (book : BookValue) (today : ℕ) (command : Command)
    → first_refusal (own_rows world book today command) ≡ None
    → nat_abs (sum_of amount_of (own_lines command)) ≤ 10 ^ 9
own-small world book today (kinds.Act account key (actions.Charge c)) none =
    let low = charge-small world book today c.amount none in omega (arith, ints, low)
own-small world book today (kinds.Act account key (actions.Credit c)) none =
    let low = charge-small world book today c.amount none in omega (arith, ints, low, nat_abs-pos c.amount)
own-small world book today command none = omega arith
