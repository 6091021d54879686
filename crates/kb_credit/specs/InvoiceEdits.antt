-- What an edit makes of invoices.
use Rattle.std.specs.Prelude.{◌≡◌, ℕ, zero, suc, ◌+◌, ◌-◌, ◌*◌, ◌^◌, ◌<◌, ◌≤◌, List, [], ◌∷◌, ◌++◌, map}
use Rattle.std.specs.Prelude.{length, ℤ, pos, neg_ℤ, ◌+ℤ◌, ◌≤ℤ◌, refl}
use Rattle.kb_sharing.specs.Sums.{sum_of}
use Rattle.kb_days.specs.Dates.{march}
use Rattle.kb_credit.specs.declared.row.Row.{Row}
use Rattle.kb_credit.specs.declared.line.Line.{Line}
use Rattle.kb_credit.specs.declared.line.Line.TheVariants.{Charge, Credit}
use Rattle.kb_credit.specs.Sizes.{size_of}
use Rattle.kb_credit.specs.Items.{amount_of}
use Rattle.kb_credit.specs.InvoiceRows.{InvoicesValue, balance_of, credit, march_row}
use Rattle.kb_credit.specs.Levelling.{levelled_rows, level_items}

-- the most that the totals of all invoices, or all that is paid, add up to, each without its sign
abbrev pub max_sum : ℕ
max_sum = 2 ^ 120

-- what always holds of invoices: their numbers are u32, their sums are bounded, and credit is never owed
pub record AreInvoices (invoices : InvoicesValue) : Type 0 where
  pub numbered : length invoices.rows < 2 ^ 32
  pub totals : size_of (λ (row : Row). row.total) invoices.rows ≤ max_sum
  pub payments : size_of (λ (row : Row). row.paid) invoices.rows ≤ max_sum
  pub adjustments : size_of (λ (row : Row). row.adjusted) invoices.rows ≤ 4 * max_sum
  pub credited : pos 0 ≤ℤ credit invoices.rows

-- no invoice yet
abbrev pub no_invoices : InvoicesValue
no_invoices = record { rows = []; items = [] }

-- an invoice of a day and some items is issued, with the next number
abbrev pub issued : InvoicesValue → ℕ → List Line → InvoicesValue
issued invoices day lines = record {
  rows = invoices.rows
      ++ record { day = day; total = sum_of amount_of lines; adjusted = pos 0; paid = pos 0 } ∷ [];
  items = invoices.items ++ map (λ line. (length invoices.rows + 1, line)) lines;
}

-- what is paid on the invoice of a number moves by an amount
abbrev pub paid_at : ℕ → ℤ → List Row → List Row
paid_at place amount [] = []
paid_at zero amount (row ∷ rows) = record row { paid = row.paid +ℤ amount } ∷ rows
paid_at (suc place) amount (row ∷ rows) = row ∷ paid_at place amount rows

abbrev pub paid_on : InvoicesValue → ℕ → ℤ → InvoicesValue
paid_on invoices number amount = record invoices { rows = paid_at (number - 1) amount invoices.rows }

-- all are levelled
abbrev pub levelled : InvoicesValue → InvoicesValue
levelled invoices = record {
  rows = levelled_rows invoices.rows;
  items = invoices.items ++ level_items invoices.rows;
}

-- an invoice of 1000 is the first, with the first item
first_issued : issued no_invoices (march 1) (Charge (pos 1000) ∷ [])
    ≡ record {
      rows = record { day = march 1; total = pos 1000; adjusted = pos 0; paid = pos 0 } ∷ [];
      items = (1, Charge (pos 1000)) ∷ [];
    }
first_issued = refl

-- 100 are paid on it
first_paid : (paid_on (issued no_invoices (march 1) (Charge (pos 1000) ∷ [])) 1 (pos 100)).rows
    ≡ march_row ∷ []
first_paid = refl

-- 2000 are granted, and 900 of them used on what is unpaid
granted_2000 : map balance_of
    (levelled (issued (record { rows = march_row ∷ []; items = [] }) (march 25)
    (Credit (neg_ℤ (pos 2000)) ∷ []))).rows
    ≡ pos 0 ∷ pos 0 ∷ []
granted_2000 = refl
