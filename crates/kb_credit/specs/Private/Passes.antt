-- The two passes of levelling over open invoices.
use Rattle.std.specs.Prelude.{◌≡◌, ℕ, zero, List, [], ◌∷◌, ◌++◌, ℤ, pos, neg_ℤ, ◌+ℤ◌, ◌-ℤ◌}
use Rattle.std.specs.Prelude.{int_lt, cond, refl}
use Rattle.std.specs.Int.{int_min, int_max}
use Rattle.kb_credit.specs.declared.open_invoice.OpenInvoice.{OpenInvoice}
use Rattle.kb_credit.specs.declared.adjustment.Adjustment.{Adjustment}
use Rattle.kb_credit.specs.declared.line.Line.{Line}
use Rattle.kb_credit.specs.declared.line.Line.TheVariants.{Cba}
use Rattle.kb_credit.specs.InvoiceRows.{march_row, repair_row}
use Rattle.kb_credit.specs.Private.OpenInvoices.{opening, opened}

-- an adjustment in front of others, if it isn't 0
abbrev pub adjusting : ℕ → ℤ → List Adjustment → List Adjustment
adjusting invoice (pos zero) later = later
adjusting invoice amount later = record { invoice = invoice; amount = amount } ∷ later

-- what the first pass adds to a balance, and what the second takes from it of the credit that is left
abbrev pub made : ℤ → ℤ
made balance = cond (int_lt balance (pos 0)) (neg_ℤ balance) (pos 0)

abbrev pub taken : ℤ → ℤ → ℤ
taken left balance = int_min left (int_max (pos 0) balance)

-- the credit after the first pass
abbrev pub with_all_made : ℤ → List OpenInvoice → ℤ
with_all_made credit [] = credit
with_all_made credit (one ∷ later) = with_all_made (credit +ℤ made one.balance) later

-- the adjustments of each pass
abbrev pub all_made : List OpenInvoice → List Adjustment
all_made [] = []
all_made (one ∷ later) = adjusting one.invoice (made one.balance) (all_made later)

abbrev pub all_used : ℤ → List OpenInvoice → List Adjustment
all_used left [] = []
all_used left (one ∷ later) =
    adjusting one.invoice (neg_ℤ (taken left one.balance)) (all_used (left -ℤ taken left one.balance) later)

-- what is open after both
abbrev pub still_open : ℤ → List OpenInvoice → List OpenInvoice
still_open left [] = []
still_open left (one ∷ later) =
    opening one.invoice one.day (int_max (pos 0) one.balance -ℤ taken left one.balance)
    (still_open (left -ℤ taken left one.balance) later)

-- the adjustments of a levelling
abbrev pub level_adjustments : ℤ → List OpenInvoice → List Adjustment
level_adjustments credit invoices =
    all_made invoices ++ all_used (with_all_made credit invoices) invoices

-- the item of an adjustment
abbrev pub item_of : Adjustment → ℕ × Line
item_of adjustment = (adjustment.invoice, Cba adjustment.amount)

-- 387 are made on the second invoice and used on the first
made_and_used : level_adjustments (pos 0) (opened 1 (march_row ∷ repair_row ∷ []))
    ≡ record { invoice = 2; amount = pos 387 } ∷ record { invoice = 1; amount = neg_ℤ (pos 387) } ∷ []
made_and_used = refl
