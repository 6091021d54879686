-- The work of the accounts of some names grows with the names, and is bounded by their invoices.
use Rattle.std.proofs.Common.{◌≡◌, ℕ, ◌+◌, ◌*◌, ◌≤◌, Bool, true, false, List, [], ◌∷◌, length, sum_by}
use Rattle.std.proofs.Common.{if◌then◌else◌, refl, sym, arith, true≢false}
use Rattle.std.proofs.lemmas.List.Sums.{sum_by-cons}
use Rattle.kb_days.specs.Calendar.{first_day, charged_days}
use Rattle.kb_book.specs.Worlds.{WorldValue}
use Rattle.kb_book.specs.Books.{BookValue, Keyed}
use Rattle.kb_book.specs.Inner.{is_after}
use Rattle.kb_book.specs.Steps.{issue_over}
use Rattle.kb_histories.specs.OwnWork.{own_work, named_work}
use Rattle.kb_histories.specs.NamedWork.{FewerNamesHaveNoMore, WorkIsBounded}
use Rattle.kb_histories.proofs.BookWork.{invoices_of-few}
use Rattle.kb_histories.proofs.CountedInvoices.{unattempted-few}

module _ (world : WorldValue) (today : ℕ) (some named : List ℕ → Bool)
    (fewer : (account : List ℕ) → some account ≡ true → named account ≡ true) where
  named-le : (books : Keyed BookValue)
      → sum_by (named_work some world today) books ≤ sum_by (named_work named world today) books
  named-le [] = omega arith
  named-le (entry ∷ later) =
      let less = sum_by-cons (named_work some world today) entry later in
      let more = sum_by-cons (named_work named world today) entry later in
      le-sum _ _ _ _ _ _ less more
      (by_names (some entry.0) (named entry.0) (fewer entry.0) (own_work world today entry.1))
      (named-le later)
    where
      by_names : (one other : Bool) → (one ≡ true → other ≡ true) → (work : ℕ)
          → (if one then work else 0) ≤ (if other then work else 0)
      by_names true true also work = omega arith
      by_names true false also work = absurd (true≢false (sym (also refl)))
      by_names false other also work = omega arith

      le-sum : (less more here there rest others : ℕ) → less ≡ here + rest → more ≡ there + others
          → here ≤ there → rest ≤ others → less ≤ more
      le-sum less more here there rest others one other at later = omega (arith, one, other, at, later)

pub fewer_names_have_no_more : FewerNamesHaveNoMore
fewer_names_have_no_more machine today some named fewer =
    named-le machine.texts.world today some named fewer machine.books

module _ (world : WorldValue) (today : ℕ) where
  -- at most a transition, an invoice that is yet to be issued, and the invoices of a book
  own_work-few : (book : BookValue) → own_work world today book ≤ 7 + 3 * length book.invoices.rows
  own_work-few book =
      few-sum _ _ _ (length book.invoices.rows) (transition-few (is_after book.transition today))
      (unattempted-few book.payments today (length book.invoices.rows))
      (invoices_of-few (issue_over world book first_day charged_days).lines)
    where
      transition-few : (after : Bool) → (if after then 4 else 0) ≤ 4
      transition-few true = omega arith
      transition-few false = omega arith

      few-sum : (transition without next count : ℕ) → transition ≤ 4 → without ≤ count → next ≤ 1
          → transition + 3 * (without + next) ≤ 7 + 3 * count
      few-sum transition without next count few most one = omega (arith, few, most, one)

  module _ (named : List ℕ → Bool) where
    abbrev one : List ℕ × BookValue → ℕ
    one entry = if named entry.0 then 1 else 0

    abbrev rows : List ℕ × BookValue → ℕ
    rows entry = if named entry.0 then length entry.1.invoices.rows else 0

    named-few : (books : Keyed BookValue)
        → sum_by (named_work named world today) books ≤ 7 * sum_by one books + 3 * sum_by rows books
    named-few [] = omega arith
    named-few (entry ∷ later) =
        let work = sum_by-cons (named_work named world today) entry later in
        let accounts = sum_by-cons one entry later in
        let invoices = sum_by-cons rows entry later in
        all-sum _ _ _ _ _ _ _ _ _ work accounts invoices
        (by_name (named entry.0) (own_work world today entry.1) (length entry.1.invoices.rows)
        (own_work-few entry.1))
        (named-few later)
      where
        by_name : (is : Bool) (work count : ℕ) → work ≤ 7 + 3 * count
            → (if is then work else 0) ≤ 7 * (if is then 1 else 0) + 3 * (if is then count else 0)
        by_name true work count few = omega (arith, few)
        by_name false work count few = omega arith

        all-sum : (work here rest accounts here_one rest_ones invoices here_rows rest_rows : ℕ)
            → work ≡ here + rest → accounts ≡ here_one + rest_ones → invoices ≡ here_rows + rest_rows
            → here ≤ 7 * here_one + 3 * here_rows → rest ≤ 7 * rest_ones + 3 * rest_rows
            → work ≤ 7 * accounts + 3 * invoices
        all-sum work here rest accounts here_one rest_ones invoices here_rows rest_rows a b c d e =
            omega (arith, a, b, c, d, e)

pub work_is_bounded : WorkIsBounded
work_is_bounded machine today named = named-few machine.texts.world today named machine.books
