-- Credit is exactly by how much payments exceed charges, by the texts of now, after each command.
use Rattle.std.proofs.Common.{◌≡◌, ℕ, List, [], ◌∷◌, ◌++◌, Option, Some, None, ap, sym, subst, ◌∙◌}
use Rattle.std.proofs.Common.{pos, ◌-ℤ◌, ◌≤ℤ◌, arith}
use Rattle.std.specs.Int.{int_max}
use Rattle.std.specs.List.{fold}
use Rattle.std.proofs.lemmas.Int.{ints, clamps}
use Rattle.kb_days.specs.Calendar.{first_day, charged_days}
use Rattle.kb_catalog.specs.declared.version.Version.{Version}
use Rattle.kb_credit.specs.declared.line.Line.{Line}
use Rattle.kb_credit.specs.InvoiceRows.{InvoicesValue, charged, credit, unpaid}
use Rattle.kb_codec.specs.declared.command.Command.{Command}
use Rattle.kb_book.specs.Worlds.{WorldValue}
use Rattle.kb_tree.specs.Issues.{Issue}
use Rattle.kb_book.specs.Books.{BookValue}
use Rattle.kb_book.specs.Dues.{charged_by}
use Rattle.kb_book.specs.Commands.{begun, own_lines}
use Rattle.kb_book.specs.Steps.{Outcome, keep, accepted_over, billed_outcome, billed_with}
use Rattle.kb_book.specs.Steps.{issue_over}
use Rattle.kb_book.specs.BilledBooks.{IsBilled, IsEven, paid_in}
use Rattle.kb_book.proofs.BegunBooks.{begun-edited}
use Rattle.kb_book.proofs.BilledRows.{credit-billed_rows, unpaid-billed_rows}
use Rattle.kb_account.specs.Prepares.{opening_book}
use Rattle.kb_codec.specs.Entries.{History}
use Rattle.kb_machine.specs.Texts.{TextsValue}
use Rattle.kb_machine.specs.Machines.{MachineValue, no_machine, with_book, opening}
use Rattle.kb_codec.specs.Senders.{account_of, key_of}
use Rattle.kb_machine.specs.Histories.{entry_after, replay}
use Rattle.kb_histories.proofs.FoundEntries.{found-put}
use Rattle.kb_histories.specs.BilledMachines.{AreBilled}
use Rattle.kb_histories.proofs.BilledBooks.{books_stay_billed}
use Rattle.kb_histories.specs.HeldPlans.{HasPlansOf}
use Rattle.kb_histories.specs.HeldMachines.{HasAllPlans}
use Rattle.kb_histories.specs.BilledNow.{AreBilledNow}
use Rattle.kb_histories.specs.EvenNow.{AreEvenNow, BooksStayEvenNow, ReplaysAreEvenNow}
use Rattle.kb_histories.proofs.LaterTotals.{totals_stay}
use Rattle.kb_histories.proofs.HeldBooks.{plans_stay}
use Rattle.kb_histories.proofs.JudgedTexts.{HaveLater, judged-leaves}
use Rattle.kb_histories.proofs.BilledNow.{billed-accepted, billed-opened, books_stay_billed_now}

-- credit and what is unpaid are by how much payments and the totals of invoices exceed each other
record IsLevel (book : BookValue) : Type 0 where
  pub credit : credit book.invoices.rows ≡ int_max (pos 0) (paid_in book -ℤ charged book.invoices.rows)
  pub unpaid : unpaid book.invoices.rows ≡ int_max (pos 0) (charged book.invoices.rows -ℤ paid_in book)

-- where the invoices total what is charged by some texts, that is so by these texts
level-even : (world : WorldValue) (book : BookValue) → IsLevel book
    → charged book.invoices.rows ≡ charged_by world book → IsEven world book
level-even world book level total = record {
  credit = level.credit ∙ ap (λ sum. int_max (pos 0) (paid_in book -ℤ sum)) total;
  unpaid = level.unpaid ∙ ap (λ sum. int_max (pos 0) (sum -ℤ paid_in book)) total;
}

-- a book that was even is so by later versions
even-later : (world : WorldValue) (later : List Version) (book : BookValue)
    → HasPlansOf world.versions book.timeline → IsEven world book
    → IsEven (record world { versions = world.versions ++ later }) book
even-later world later book held even =
    let total = sym (totals_stay world later book held) in record {
      credit = even.credit ∙ ap (λ sum. int_max (pos 0) (paid_in book -ℤ sum)) total;
      unpaid = even.unpaid ∙ ap (λ sum. int_max (pos 0) (sum -ℤ paid_in book)) total;
    }

-- and whatever overdue states there are then
even-texts : (texts next : TextsValue) (book : BookValue) → HaveLater texts next
    → HasPlansOf texts.world.versions book.timeline → IsEven texts.world book → IsEven next.world book
even-texts texts next book more held even =
    let now : IsEven (record texts.world { versions = next.world.versions }) book =
    subst (λ (versions : List Version). IsEven (record texts.world { versions = versions }) book)
    (sym more.1) (even-later texts.world more.0 book held even) in
    record { credit = now.credit; unpaid = now.unpaid }

-- levelling makes a book level, where no credit was owed
after-level : (edited : BookValue) (today : ℕ) (issue : Issue) (own : List Line)
    → pos 0 ≤ℤ credit edited.invoices.rows → IsLevel (billed_with edited today issue own)
after-level edited today issue own least = record {
  credit = credit-billed_rows edited.payments edited.invoices today (issue.lines ++ own) least;
  unpaid = unpaid-billed_rows edited.payments edited.invoices today (issue.lines ++ own) least;
}

-- and keeping an answer leaves it so
level-keep : (command : Command) (key : Option (List ℕ)) (outcome : Outcome) → IsLevel outcome.1
    → IsLevel (keep command key outcome).1
level-keep command None outcome level = level
level-keep command (Some key) outcome level = record { credit = level.credit; unpaid = level.unpaid }

-- so an accepted command leaves a level book
level-accepted : (world : WorldValue) (book : BookValue) (today : ℕ) (command : Command)
    → pos 0 ≤ℤ credit book.invoices.rows
    → IsLevel (accepted_over world book today command first_day charged_days).1
level-accepted world book today command least =
    let edited : BookValue = begun world book today command in
    let edit = begun-edited world book today command in
    let issue : Issue = issue_over world edited first_day charged_days in
    level-keep command (key_of command) (billed_outcome edited today issue (own_lines command))
    (after-level edited today issue (own_lines command)
    (subst (λ (invoices : InvoicesValue). pos 0 ≤ℤ credit invoices.rows) (sym edit.invoices) least))

-- which is even, where it is billed
even-accepted : (world : WorldValue) (book : BookValue) (today : ℕ) (command : Command)
    → pos 0 ≤ℤ credit book.invoices.rows
    → IsBilled world (accepted_over world book today command first_day charged_days).1
    → IsEven world (accepted_over world book today command first_day charged_days).1
even-accepted world book today command least billed =
    level-even world (accepted_over world book today command first_day charged_days).1
    (level-accepted world book today command least) billed.totals

-- no credit is owed by a book that is even
least-even : (world : WorldValue) (book : BookValue) → IsEven world book → pos 0 ≤ℤ credit book.invoices.rows
least-even world book even = omega (arith, ints, clamps, even.credit)

-- with one more book
even-put : (machine : MachineValue) (own : List ℕ) (value : BookValue) → AreEvenNow machine
    → IsEven machine.texts.world value → AreEvenNow (with_book machine own value)
even-put machine own value are even = record {
  even =
      λ account book. found-put account own value machine.books
      (λ found. found ≡ Some book → IsEven machine.texts.world book)
      (λ other there. are.even account book there)
      (λ same there. let one : value ≡ book = cc in subst (IsEven machine.texts.world) one even);
}

-- each command leaves all books even
pub books_stay_even_now : BooksStayEvenNow
books_stay_even_now machine today command were has billed are =
    judged-leaves machine today AreEvenNow are command
    (λ texts more. record {
      even = λ account book there.
          even-texts machine.texts texts book more (has.held account book there)
          (are.even account book there);
    })
    (λ name request c. even-put machine (account_of command) _ are
    (even-accepted machine.texts.world (opening_book (opening name request c)) today (opening name request c)
    (omega (arith, ints)) (billed-opened machine.texts.world today name request c)))
    (λ book there none.
    even-put machine (account_of command) _ are
    (even-accepted machine.texts.world book today command
    (least-even machine.texts.world book (are.even (account_of command) book there))
    (billed-accepted machine.texts.world book today command (were.billed (account_of command) book there)
    (billed.billed (account_of command) book there))))

-- and each history leads to such ones
even-after : (later : History) (machine : MachineValue) → AreBilled machine → HasAllPlans machine
    → AreBilledNow machine → AreEvenNow machine → AreEvenNow (fold entry_after machine later)
even-after [] machine were has billed are = are
even-after (entry ∷ later) machine were has billed are =
    even-after later (entry_after machine entry) (books_stay_billed machine entry.0 entry.1 were)
    (plans_stay machine entry.0 entry.1 has) (books_stay_billed_now machine entry.0 entry.1 were has billed)
    (books_stay_even_now machine entry.0 entry.1 were has billed are)

pub replays_are_even_now : ReplaysAreEvenNow
unfolding replay
replays_are_even_now history =
    even-after history no_machine (record { billed = λ account book there. absurd (cc); ordered = tt })
    (record { held = λ account book there. absurd (cc) })
    (record { billed = λ account book there. absurd (cc); matched = λ account book there. absurd (cc) })
    (record { even = λ account book there. absurd (cc) })
