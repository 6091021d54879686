-- What moves on an invoice.
use Rattle.std.proofs.Common.{◌≡◌, ℕ, zero, suc, ◌≤◌, ℤ, refl, arith}
use Rattle.kb_credit.specs.InvoiceRows.{InvoicesValue}
use Rattle.kb_credit.specs.InvoiceEdits.{paid_on}
use Rattle.kb_credit.proofs.GrownSizes.{payments-paid_at}
use Rattle.kb_account.specs.Private.Moves.{with_moved}

-- there is no invoice 0
pub moved_none : (number : ℕ) (amount : ℤ) (invoices : InvoicesValue) → number ≡ 0
    → with_moved number amount invoices ≡ invoices
moved_none zero amount invoices none = refl
moved_none (suc before) amount invoices none = absurd (omega arith)

-- on another one what is paid moves
pub moved_some : (number : ℕ) (amount : ℤ) (invoices : InvoicesValue) → 1 ≤ number
    → with_moved number amount invoices ≡ paid_on invoices number amount
moved_some zero amount invoices some = absurd (omega arith)
moved_some (suc before) amount invoices some = refl

pub ruleset moves = (moved_none, moved_some, payments-paid_at)
