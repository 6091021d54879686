-- What is kept beside the rows is kept by each edit.
use Rattle.std.proofs.Common.{◌≡◌, ℕ, ◌+◌, List, [], ◌∷◌, ◌++◌, ℤ, pos, ◌+ℤ◌, ◌-ℤ◌, ◌≤ℤ◌, length}
use Rattle.std.proofs.Common.{slice_get, Some, refl, ap, ap₂, ◌∙◌, sym, arith}
use Rattle.std.specs.Int.{int_max}
use Rattle.std.proofs.lemmas.Int.{ints}
use Rattle.kb_sharing.proofs.MemberSums.{sum_of-push}
use Rattle.kb_credit.specs.declared.row.Row.{Row}
use Rattle.kb_credit.specs.declared.open_invoice.OpenInvoice.{OpenInvoice}
use Rattle.kb_credit.specs.declared.sums.Sums.{Sums}
use Rattle.kb_credit.specs.InvoiceRows.{balance_of, credit}
use Rattle.kb_credit.specs.Levelling.{levelled_rows}
use Rattle.kb_credit.specs.InvoiceEdits.{paid_at}
use Rattle.kb_credit.specs.Private.OpenInvoices.{opening, reopened}
use Rattle.kb_credit.specs.Private.Passes.{with_all_made, still_open}
use Rattle.kb_credit.specs.Private.KeptSums.{AreKept}
use Rattle.kb_credit.proofs.OpenedRows.{opened-append, opened-paid_at, balance_of-paid}
use Rattle.kb_credit.proofs.LevelledRows.{opened-levelled_rows}
use Rattle.kb_credit.proofs.ClosedForm.{charged-levelled_rows, paid-levelled_rows, credit-levelled_rows}
use Rattle.kb_credit.proofs.PaidRows.{sum_of-paid_at, paid-paid_at}

-- one more invoice
module _ (rows : List Row) (invoices : List OpenInvoice) (sums : Sums)
    (kept : AreKept rows invoices sums) where
  pub AreKept-issued : (day : ℕ) (sum : ℤ)
      → AreKept (rows ++ record { day = day; total = sum; adjusted = pos 0; paid = pos 0 } ∷ [])
      (invoices ++ opening (length rows + 1) day sum []) (record sums { charged = sums.charged +ℤ sum })
  AreKept-issued day sum =
      let row : Row = record { day = day; total = sum; adjusted = pos 0; paid = pos 0 } in
      let balance : balance_of row ≡ sum = omega (arith, ints) in
      let totals = kept.totals in
      let pays = kept.pays in
      let credits = kept.credits in
      let more = sum_of-push (λ (row : Row). row.total) rows row in
      let more_paid = sum_of-push (λ (row : Row). row.paid) rows row in
      let more_credit = sum_of-push (λ (row : Row). row.adjusted) rows row in
      record {
        opens = ap₂ (λ front back. front ++ back) kept.opens
            (ap₂ (λ number b. opening number day b [])
            (let e : length rows + 1 ≡ 1 + length rows = omega arith in e)
            (sym balance))
            ∙ sym (opened-append 1 rows (row ∷ []));
        totals = omega (arith, ints);
        pays = omega (arith, ints);
        credits = omega (arith, ints);
      }

  -- a payment on one
  pub AreKept-paid : (place number : ℕ) (amount : ℤ) (row : Row) → slice_get rows place ≡ Some row
      → number ≡ 1 + place
      → AreKept (paid_at place amount rows)
      (reopened
      (record {
        invoice = number;
        day = row.day;
        balance = balance_of (record row { paid = row.paid +ℤ amount });
      })
      invoices)
      (record sums { paid = sums.paid +ℤ amount })
  AreKept-paid place number amount row is at =
      record {
        opens = ap₂ (λ balance others.
            reopened (record { invoice = number; day = row.day; balance = balance }) others)
            (balance_of-paid row amount) kept.opens
            ∙ sym (opened-paid_at 1 place number amount row rows is at);
        totals = kept.totals
            ∙ sym (sum_of-paid_at (λ (row : Row). row.total) (λ row paid. refl) place amount rows);
        pays = ap (λ sum. sum +ℤ amount) kept.pays ∙ sym (paid-paid_at place amount row rows is);
        credits = kept.credits
            ∙ sym (sum_of-paid_at (λ (row : Row). row.adjusted) (λ row paid. refl) place amount rows);
      }

  -- a levelling
  pub AreKept-levelled : pos 0 ≤ℤ credit rows
      → AreKept (levelled_rows rows) (still_open (with_all_made sums.credit invoices) invoices)
      (record sums { credit = int_max (pos 0) (sums.paid -ℤ sums.charged) })
  AreKept-levelled least =
      record {
        opens = ap₂ (λ sum others. still_open (with_all_made sum others) others) kept.credits kept.opens
            ∙ opened-levelled_rows rows least;
        totals = kept.totals ∙ sym (charged-levelled_rows rows);
        pays = kept.pays ∙ sym (paid-levelled_rows rows);
        credits = ap₂ (λ a b. int_max (pos 0) (a -ℤ b)) kept.pays kept.totals
            ∙ sym (credit-levelled_rows rows least);
      }
