-- No account has an invoice that is yet to be issued, so a transition and its invoices bound its work.
use Rattle.std.proofs.Common.{◌≡◌, ℕ, ◌+◌, ◌*◌, ◌≤◌, Bool, true, false, not, List, [], ◌∷◌, length, Some, All}
use Rattle.std.proofs.Common.{sum_by, if◌then◌else◌, ap, arith}
use Rattle.std.specs.List.{range_with_len}
use Rattle.std.specs.FinMap.{find}
use Rattle.std.proofs.lemmas.List.Elements.{All-head, All-tail, All-weaker}
use Rattle.std.proofs.lemmas.List.FromFn.{length-range_with_len}
use Rattle.std.proofs.lemmas.List.Sums.{sum_by-cons, count_by-le-length}
use Rattle.kb_sharing.specs.Keys.{by_words}
use Rattle.kb_payment.specs.PaymentSums.{PaymentsValue, has_automatic_since}
use Rattle.kb_book.specs.Worlds.{WorldValue}
use Rattle.kb_book.specs.Books.{BookValue, Keyed}
use Rattle.kb_book.specs.Dues.{facts_of}
use Rattle.kb_book.specs.Inner.{is_after}
use Rattle.kb_machine.specs.Machines.{MachineValue}
use Rattle.kb_machine.specs.Histories.{replay}
use Rattle.kb_histories.specs.OwnWork.{unattempted, invoices_of, invoices_due, own_work, named_work}
use Rattle.kb_histories.proofs.BilledBooks.{replays_are_billed}
use Rattle.kb_histories.specs.BilledNow.{NoInvoiceIsDue}
use Rattle.kb_histories.specs.BoundedWork.{ReplayedWorkIsBounded}
use Rattle.kb_tree.specs.Issues.{Issue}
use Rattle.kb_book.proofs.NothingDue.{none-issued}
use Rattle.kb_histories.proofs.OrderedBooks.{found-each}
use Rattle.kb_histories.proofs.BilledNow.{replays_are_billed_now}

-- each day has its charge, so nothing is issued
pub no_invoice_is_due : NoInvoiceIsDue
no_invoice_is_due history account book there =
    ap invoices_of
    (ap (λ (issue : Issue). issue.lines)
    (none-issued (facts_of (replay history).texts.world book) book.billed
    (length book.invoices.items + 1) 0 book.charges
    ((replays_are_billed_now history).billed account book there).days))

module _ (world : WorldValue) (today : ℕ) where
  -- at most a transition, and the invoices of a book
  own_work-few : (book : BookValue) → invoices_due world book ≡ 0
      → own_work world today book ≤ 4 + 3 * length book.invoices.rows
  own_work-few book none =
      few-sum _ _ _ (length book.invoices.rows) (transition-few (is_after book.transition today))
      (unattempted-few book.payments (length book.invoices.rows)) none
    where
      transition-few : (after : Bool) → (if after then 4 else 0) ≤ 4
      transition-few true = omega arith
      transition-few false = omega arith

      unattempted-few : (payments : PaymentsValue) (count : ℕ) → unattempted payments today count ≤ count
      unattempted-few payments count =
          omega (
            arith,
            count_by-le-length (λ invoice. not (has_automatic_since payments invoice today))
                (range_with_len 1 count),
            length-range_with_len 1 count,
          )

      few-sum : (transition without next count : ℕ) → transition ≤ 4 → without ≤ count → next ≡ 0
          → transition + 3 * (without + next) ≤ 4 + 3 * count
      few-sum transition without next count few most one = omega (arith, few, most, one)

  module _ (named : List ℕ → Bool) where
    abbrev none_due : List ℕ × BookValue → Type 0
    none_due entry = invoices_due world entry.1 ≡ 0

    abbrev one : List ℕ × BookValue → ℕ
    one entry = if named entry.0 then 1 else 0

    abbrev rows : List ℕ × BookValue → ℕ
    rows entry = if named entry.0 then length entry.1.invoices.rows else 0

    named-few : (books : Keyed BookValue) → All none_due books
        → sum_by (named_work named world today) books ≤ 4 * sum_by one books + 3 * sum_by rows books
    named-few [] none = omega arith
    named-few (entry ∷ later) none =
        let work = sum_by-cons (named_work named world today) entry later in
        let accounts = sum_by-cons one entry later in
        let invoices = sum_by-cons rows entry later in
        all-sum _ _ _ _ _ _ _ _ _ work accounts invoices
        (by_name (named entry.0) (own_work world today entry.1) (length entry.1.invoices.rows)
        (own_work-few entry.1 (All-head none_due entry later none)))
        (named-few later (All-tail none_due entry later none))
      where
        by_name : (is : Bool) (work count : ℕ) → work ≤ 4 + 3 * count
            → (if is then work else 0) ≤ 4 * (if is then 1 else 0) + 3 * (if is then count else 0)
        by_name true work count few = omega (arith, few)
        by_name false work count few = omega arith

        all-sum : (work here rest accounts here_one rest_ones invoices here_rows rest_rows : ℕ)
            → work ≡ here + rest → accounts ≡ here_one + rest_ones → invoices ≡ here_rows + rest_rows
            → here ≤ 4 * here_one + 3 * here_rows → rest ≤ 4 * rest_ones + 3 * rest_rows
            → work ≤ 4 * accounts + 3 * invoices
        all-sum work here rest accounts here_one rest_ones invoices here_rows rest_rows a b c d e =
            omega (arith, a, b, c, d, e)

pub replayed_work_is_bounded : ReplayedWorkIsBounded
replayed_work_is_bounded history today named =
    let machine : MachineValue = replay history in
    named-few machine.texts.world today named machine.books
    (All-weaker (λ (entry : List ℕ × BookValue). find by_words entry.0 machine.books ≡ Some entry.1)
    (none_due machine.texts.world today named)
    (λ entry there. no_invoice_is_due history entry.0 entry.1 there) machine.books
    (found-each machine.books (replays_are_billed history).ordered))
