-- The work of all accounts that is at hand: what takes it off, and how much it is at most.
use Rattle.std.proofs.Common.{◌≡◌, ℕ, ◌+◌, ◌*◌, ◌≤◌, Bool, true, false, List, [], ◌∷◌, length, sum_by, Some}
use Rattle.std.proofs.Common.{if◌then◌else◌, refl, sym, subst, ◌∙◌, arith, true≢false}
use Rattle.std.specs.Cmp.Lexicographic.{nat_list_cmp_total}
use Rattle.std.proofs.lemmas.List.Sums.{sum_by-cons}
use Rattle.kb_codec.specs.declared.command.Command.{Command}
use Rattle.kb_codec.specs.declared.command.Command.TheVariants as kinds
use Rattle.kb_codec.specs.Senders.{is_text, account_of}
use Rattle.kb_book.specs.Books.{BookValue, Keyed}
use Rattle.kb_book.proofs.FoundEntries.{same_keys}
use Rattle.kb_machine.specs.Judged.{after_judged, is_new}
use Rattle.kb_machine.specs.Machines.{MachineValue, book_of, judged, with_book}
use Rattle.kb_histories.specs.OwnWork.{work_left}
use Rattle.kb_histories.specs.NamedWork.{named_invoices}
use Rattle.kb_histories.specs.BilledMachines.{AreBilled}
use Rattle.kb_histories.specs.WorkAtHand.{work_at_hand, named_at_hand, all_at_hand}
use Rattle.kb_histories.specs.WorkAtHand.{DueCommandsTakeAtHand, SettlementsAddInvoices, AtHandIsBounded}
use Rattle.kb_histories.proofs.BookAtHand.{work_at_hand-few, settle-hand, next_due-takes}
use Rattle.kb_histories.proofs.DueNews.{due_commands_are_named, due_commands_are_new}
use Rattle.kb_histories.proofs.JudgedCases.{judged-cases, accepted_on}
use Rattle.kb_histories.proofs.PutBooks.{sum_by-replace}

-- how many invoices an account has, if its name passes a test
abbrev named_rows : (List ℕ → Bool) → List ℕ × BookValue → ℕ
named_rows named entry = if named entry.0 then length entry.1.invoices.rows else 0

module _ (machine : MachineValue) (today : ℕ) (named : List ℕ → Bool) (account : List ℕ)
    (book after : BookValue) (are : AreBilled machine) (there : book_of machine account ≡ Some book) where
  abbrev next : MachineValue
  next = with_book machine account after

  -- what a book weighs takes the place of what the other did
  replaced : (weight : List ℕ × BookValue → ℕ)
      → sum_by weight next.books + weight (account, book)
      ≡ sum_by weight machine.books + weight (account, after)
  replaced weight =
      sum_by-replace nat_list_cmp_total same_keys weight account after book machine.books are.ordered there

  -- what the book of an account that is counted takes off is taken off all
  hand-taken : (left : ℕ) → named account ≡ true
      → work_at_hand today after + left + 3 * length book.invoices.rows
      ≤ work_at_hand today book + 3 * length after.invoices.rows
      → all_at_hand named today next + left + 3 * named_invoices named machine
      ≤ all_at_hand named today machine + 3 * named_invoices named next
  hand-taken left is less =
      let before : named_at_hand named today (account, book) ≡ work_at_hand today book = rw is refl in
      let now : named_at_hand named today (account, after) ≡ work_at_hand today after = rw is refl in
      let old : named_rows named (account, book) ≡ length book.invoices.rows = rw is refl in
      let new : named_rows named (account, after) ≡ length after.invoices.rows = rw is refl in
      taken-sum _ _ _ _ _ _ _ _ _ _ _ _ left (replaced (named_at_hand named today))
      (replaced (named_rows named)) before now old new less
    where
      taken-sum : (new old one_old one_new invoices_new invoices_old rows_old rows_new was is had has : ℕ)
          (left : ℕ) → new + one_old ≡ old + one_new → invoices_new + rows_old ≡ invoices_old + rows_new
          → one_old ≡ was → one_new ≡ is → rows_old ≡ had → rows_new ≡ has
          → is + left + 3 * had ≤ was + 3 * has → new + left + 3 * invoices_old ≤ old + 3 * invoices_new
      taken-sum new old one_old one_new invoices_new invoices_old rows_old rows_new was is had has left all
          rows a b c d less =
          omega (arith, all, rows, a, b, c, d, less)

  -- what a book adds is added to all, if the account is counted
  hand-kept : work_at_hand today after + 3 * length book.invoices.rows
      ≤ work_at_hand today book + 3 * length after.invoices.rows
      → all_at_hand named today next + 3 * named_invoices named machine
      ≤ all_at_hand named today machine + 3 * named_invoices named next
  hand-kept less =
      kept-sum _ _ _ _ _ _ _ _ (replaced (named_at_hand named today)) (replaced (named_rows named))
      (by_name (named account) _ _ _ _ less)
    where
      by_name : (is : Bool) (new old had has : ℕ) → new + 3 * had ≤ old + 3 * has
          → (if is then new else 0) + 3 * (if is then had else 0)
          ≤ (if is then old else 0) + 3 * (if is then has else 0)
      by_name true new old had has less = less
      by_name false new old had has less = omega arith

      kept-sum : (new old one_old one_new invoices_new invoices_old rows_old rows_new : ℕ)
          → new + one_old ≡ old + one_new → invoices_new + rows_old ≡ invoices_old + rows_new
          → one_new + 3 * rows_old ≤ one_old + 3 * rows_new → new + 3 * invoices_old ≤ old + 3 * invoices_new
      kept-sum new old one_old one_new invoices_new invoices_old rows_old rows_new all rows less =
          omega (arith, all, rows, less)

-- a new command on an account that is there, which takes as much off its book's work as it leaves to do
taken-after : (machine : MachineValue) (today : ℕ) (named : List ℕ → Bool) (book : BookValue)
    (command : Command) → AreBilled machine → book_of machine (account_of command) ≡ Some book
    → named (account_of command) ≡ true
    → is_text command ≡ false → is_new (judged machine today command) ≡ true
    → work_at_hand today (accepted_on machine today command book).1 + work_left command
    + 3 * length book.invoices.rows
    ≤ work_at_hand today book + 3 * length (accepted_on machine today command book).1.invoices.rows
    → all_at_hand named today (after_judged machine (judged machine today command)) + work_left command
    + 3 * named_invoices named machine
    ≤ all_at_hand named today machine
    + 3 * named_invoices named (after_judged machine (judged machine today command))
taken-after machine today named book command are there is no_text new less =
    judged-cases machine today
    (λ comes. is_new comes ≡ true
    → all_at_hand named today (after_judged machine comes) + work_left command
    + 3 * named_invoices named machine
    ≤ all_at_hand named today machine + 3 * named_invoices named (after_judged machine comes))
    (λ reply again. absurd (true≢false (sym again))) (λ refusal refused. absurd (true≢false (sym refused)))
    command (λ text. absurd (true≢false (sym text ∙ no_text))) (λ name request c opens none. absurd (cc))
    (λ other here none accepted.
    let same : book ≡ other = cc in
    hand-taken machine today named (account_of command) other (accepted_on machine today command other).1 are
    here (work_left command) is
    (subst (λ one. work_at_hand today (accepted_on machine today command one).1 + work_left command
    + 3 * length one.invoices.rows
    ≤ work_at_hand today one + 3 * length (accepted_on machine today command one).1.invoices.rows)
    same less))
    new

pub due_commands_take_at_hand : DueCommandsTakeAtHand
due_commands_take_at_hand machine today named account book command own keyed are last is there next =
    let same : account_of command ≡ account =
    due_commands_are_named machine today account book command own there next in
    let takes = next_due-takes machine.texts.world book today command (keyed.keyed account book there) last
    next in
    taken-after machine today named book command are (rw same there) (rw same is) takes.no_text
    (due_commands_are_new machine today account book command own there next) takes.less

pub settlements_add_invoices : SettlementsAddInvoices
settlements_add_invoices machine today named c are =
    judged-cases machine today
    (λ comes. all_at_hand named today (after_judged machine comes) + 3 * named_invoices named machine
    ≤ all_at_hand named today machine + 3 * named_invoices named (after_judged machine comes))
    (λ reply. omega arith) (λ refusal. omega arith) (kinds.Settle c)
    (λ text. absurd (true≢false (sym text))) (λ name request d opens. absurd (cc))
    (λ book there none.
    hand-kept machine today named c.account book (accepted_on machine today (kinds.Settle c) book).1 are there
    (settle-hand machine.texts.world book today c))

module _ (today : ℕ) (named : List ℕ → Bool) where
  abbrev one : List ℕ × BookValue → ℕ
  one entry = if named entry.0 then 1 else 0

  hand-few : (books : Keyed BookValue)
      → sum_by (named_at_hand named today) books ≤ sum_by one books + 3 * sum_by (named_rows named) books
  hand-few [] = omega arith
  hand-few (entry ∷ later) =
      let work = sum_by-cons (named_at_hand named today) entry later in
      let accounts = sum_by-cons one entry later in
      let invoices = sum_by-cons (named_rows named) entry later in
      all-sum _ _ _ _ _ _ _ _ _ work accounts invoices
      (by_name (named entry.0) (work_at_hand today entry.1) (length entry.1.invoices.rows)
      (work_at_hand-few today entry.1))
      (hand-few later)
    where
      by_name : (is : Bool) (work count : ℕ) → work ≤ 1 + 3 * count
          → (if is then work else 0) ≤ (if is then 1 else 0) + 3 * (if is then count else 0)
      by_name true work count few = omega (arith, few)
      by_name false work count few = omega arith

      all-sum : (work here rest accounts here_one rest_ones invoices here_rows rest_rows : ℕ)
          → work ≡ here + rest → accounts ≡ here_one + rest_ones → invoices ≡ here_rows + rest_rows
          → here ≤ here_one + 3 * here_rows → rest ≤ rest_ones + 3 * rest_rows
          → work ≤ accounts + 3 * invoices
      all-sum work here rest accounts here_one rest_ones invoices here_rows rest_rows a b c d e =
          omega (arith, a, b, c, d, e)

pub at_hand_is_bounded : AtHandIsBounded
at_hand_is_bounded machine today named = hand-few today named machine.books
