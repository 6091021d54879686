-- The sums of a book fit.
use Rattle.std.proofs.Common.{◌^◌, ◌≤◌, ℤ, pos, ◌-ℤ◌, nat_abs, sym, subst, arith}
use Rattle.std.proofs.lemmas.Int.{ints, clamps}
use Rattle.std.specs.Int.{int_max}
use Rattle.kb_credit.specs.declared.row.Row.{Row}
use Rattle.kb_credit.specs.InvoiceRows.{charged, paid, credit, unpaid}
use Rattle.kb_credit.proofs.SizeLaws.{nat_abs-sum_of}
use Rattle.kb_book.specs.Books.{BookValue}
use Rattle.kb_book.specs.SoundBooks.{IsBook}
use Rattle.kb_book.specs.BoundedSums.{IsBounded}

-- what is charged, and what is paid, is of this size
charged-size : (book : BookValue) → IsBook book → nat_abs (charged book.invoices.rows) ≤ 2 ^ 96
charged-size book sound =
    let size = nat_abs-sum_of (λ (row : Row). row.total) book.invoices.rows in
    omega (arith, size, sound.totals, sound.few)

paid-size : (book : BookValue) → IsBook book → nat_abs (paid book.invoices.rows) ≤ 2 ^ 96
paid-size book sound =
    let size = nat_abs-sum_of (λ (row : Row). row.paid) book.invoices.rows in
    omega (arith, size, sound.paid, sound.few)

-- so it fits
pub charged-bounded : (book : BookValue) → IsBook book → IsBounded (charged book.invoices.rows)
charged-bounded book sound =
    let size = charged-size book sound in (omega (arith, ints, size), omega (arith, ints, size))

pub paid-bounded : (book : BookValue) → IsBook book → IsBounded (paid book.invoices.rows)
paid-bounded book sound =
    let size = paid-size book sound in (omega (arith, ints, size), omega (arith, ints, size))

-- and so does by how much one exceeds the other
apart-bounded : (one two : ℤ) → nat_abs one ≤ 2 ^ 96 → nat_abs two ≤ 2 ^ 96
    → IsBounded (int_max (pos 0) (one -ℤ two))
apart-bounded one two first second = (
  omega (arith, ints, clamps, first, second),
  omega
      (arith, ints, clamps, first, second),
)

pub credit-bounded : (book : BookValue) → IsBook book → IsBounded (credit book.invoices.rows)
credit-bounded book sound =
    subst IsBounded (sym sound.credited)
    (apart-bounded (paid book.invoices.rows) (charged book.invoices.rows) (paid-size book sound)
    (charged-size book sound))

pub unpaid-bounded : (book : BookValue) → IsBook book → IsBounded (unpaid book.invoices.rows)
unpaid-bounded book sound =
    subst IsBounded (sym sound.owed)
    (apart-bounded (charged book.invoices.rows) (paid book.invoices.rows) (charged-size book sound)
    (paid-size book sound))
