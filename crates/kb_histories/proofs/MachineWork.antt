-- The work of all accounts, once a book takes the place of the one before.
use Rattle.std.proofs.Common.{◌≡◌, ℕ, ◌+◌, ◌≤◌, Bool, true, false, List, Some, refl, arith, if◌then◌else◌}
use Rattle.std.specs.Cmp.Lexicographic.{nat_list_cmp_total}
use Rattle.kb_book.specs.Books.{BookValue}
use Rattle.kb_book.proofs.FoundEntries.{same_keys}
use Rattle.kb_machine.specs.Machines.{MachineValue, book_of, with_book}
use Rattle.kb_histories.specs.OwnWork.{own_work, named_work, all_work}
use Rattle.kb_histories.specs.BilledMachines.{AreBilled}
use Rattle.kb_histories.proofs.PutBooks.{sum_by-replace}

module _ (machine : MachineValue) (today : ℕ) (named : List ℕ → Bool) (account : List ℕ)
    (book after : BookValue) (are : AreBilled machine) (there : book_of machine account ≡ Some book) where
  -- its work takes the place of the other's
  work-replaced : all_work named today (with_book machine account after)
      + named_work named machine.texts.world today (account, book)
      ≡ all_work named today machine + named_work named machine.texts.world today (account, after)
  work-replaced =
      sum_by-replace nat_list_cmp_total same_keys (named_work named machine.texts.world today) account after
      book machine.books are.ordered there

  -- with a book that has less work there is less, if its account is counted
  pub work-taken : (left : ℕ) → named account ≡ true
      → own_work machine.texts.world today after + left ≤ own_work machine.texts.world today book
      → all_work named today (with_book machine account after) + left ≤ all_work named today machine
  work-taken left is less =
      let before : named_work named machine.texts.world today (account, book)
      ≡ own_work machine.texts.world today book = rw is refl in
      let now : named_work named machine.texts.world today (account, after)
      ≡ own_work machine.texts.world today after = rw is refl in
      taken-sum _ _ _ _ _ _ left work-replaced before now less
    where
      taken-sum : (new old one_old one_new was is left : ℕ) → new + one_old ≡ old + one_new → one_old ≡ was
          → one_new ≡ is → is + left ≤ was → new + left ≤ old
      taken-sum new old one_old one_new was is left all before now less =
          omega (arith, all, before, now, less)

  -- and no more, whether it is counted or not
  pub work-kept : own_work machine.texts.world today after ≤ own_work machine.texts.world today book
      → all_work named today (with_book machine account after) ≤ all_work named today machine
  work-kept less =
      kept-sum _ _ _ _ work-replaced
      (by_name (named account) (own_work machine.texts.world today after)
      (own_work machine.texts.world today book) less)
    where
      by_name : (is : Bool) (new old : ℕ) → new ≤ old → (if is then new else 0) ≤ (if is then old else 0)
      by_name true new old less = less
      by_name false new old less = omega arith

      kept-sum : (new old one_old one_new : ℕ) → new + one_old ≡ old + one_new → one_new ≤ one_old → new ≤ old
      kept-sum new old one_old one_new all less = omega (arith, all, less)
