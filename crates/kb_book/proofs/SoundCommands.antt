-- An accepted command keeps what always holds of a book.
use Rattle.std.proofs.Common.{◌≡◌, ℕ, ◌+◌, ◌*◌, ◌^◌, ◌≤◌, ◌<◌, List, ◌++◌, length, Option, Some, None}
use Rattle.std.proofs.Common.{nat_abs, ap, arith, subst, sym}
use Rattle.kb_sharing.specs.Sums.{sum_of}
use Rattle.kb_days.specs.Calendar.{first_day, charged_days}
use Rattle.kb_credit.specs.Items.{amount_of}
use Rattle.kb_credit.specs.InvoiceRows.{InvoicesValue}
use Rattle.kb_credit.proofs.Integers.{nat_abs-add}
use Rattle.kb_codec.specs.declared.command.Command.{Command}
use Rattle.kb_book.specs.Worlds.{WorldValue}
use Rattle.kb_tree.specs.Issues.{Issue}
use Rattle.kb_book.specs.Books.{BookValue}
use Rattle.kb_book.specs.Commands.{begun, own_rows, own_lines}
use Rattle.kb_book.specs.Rows.{first_refusal}
use Rattle.kb_book.specs.Steps.{Outcome, keep, accepted_over, billed_outcome, billed_with}
use Rattle.kb_codec.specs.Senders.{key_of}
use Rattle.kb_book.specs.Steps.{issue_over, with_paid}
use Rattle.kb_book.specs.SoundBooks.{IsBook}
use Rattle.kb_book.proofs.AcceptedPayments.{AreSound, payments-sound}
use Rattle.kb_book.proofs.BegunBooks.{begun-edited}
use Rattle.kb_book.proofs.BilledSteps.{after-billed}
use Rattle.kb_book.proofs.InvoicedAttempts.{invoiced-more, AreInvoiced}
use Rattle.kb_book.proofs.KeptTotals.{totals_size}
use Rattle.kb_book.proofs.PaidMoves.{MovesOnce}
use Rattle.kb_book.proofs.SmallSums.{paid_size, totals-billed_rows, paid-billed_rows, own-small}
use Rattle.kb_book.proofs.SoundSteps.{after-matched, after-below, after-issued, after-more, after-noted}
use Rattle.kb_book.proofs.SoundSteps.{after-levelled, after-credited, after-owed}

-- a book that an answer is kept in is as sound as before
sound-keep : (command : Command) (key : Option (List ℕ)) (outcome : Outcome) → IsBook outcome.1
    → IsBook (keep command key outcome).1
sound-keep command None outcome sound = sound
sound-keep command (Some key) outcome sound = record {
  billed = (sound.billed.0, record { days = sound.billed.1.days; totals = sound.billed.1.totals });
  matched = sound.matched;
  below = sound.below;
  issued = sound.issued;
  totals = sound.totals;
  paid = sound.paid;
  beside = sound.beside;
  noted = sound.noted;
  few = sound.few;
  credited = sound.credited;
  owed = sound.owed;
  levelled = sound.levelled;
  owned = sound.owned;
  invoiced = sound.invoiced;
}

module _ (world : WorldValue) (book : BookValue) (today : ℕ) (command : Command) (sound : IsBook book)
    (accepted : first_refusal (own_rows world book today command) ≡ None) where
  -- the edited book, what is issued for it, and the book once it is billed
  abbrev edited : BookValue
  edited = begun world book today command

  abbrev issue : Issue
  issue = issue_over world edited first_day charged_days

  abbrev after : BookValue
  after = billed_with edited today issue (own_lines command)

  -- payments after it
  edited-sound : AreSound (length book.invoices.rows) edited.payments
  edited-sound = payments-sound world book today command (sound.owned, sound.invoiced) accepted

  after-beside : nat_abs after.beside ≤ 10 ^ 9 * after.commands
  after-beside =
      let edit = begun-edited world book today command in
      let own = own-small world book today command accepted in
      let size = nat_abs-add book.beside (sum_of amount_of (own_lines command)) in
      let same = ap nat_abs edit.beside in
      omega (arith, own, size, same, sound.beside, edit.commands)

  module _ (few : book.commands + 1 < 2 ^ 32)
      (small : nat_abs (sum_of amount_of (issue.lines ++ own_lines command)) ≤ 2 ^ 55)
      (moves : MovesOnce book.payments edited.payments) where
    -- no sum grows by more than one command may add to it
    after-totals : totals_size after.invoices ≤ 2 ^ 55 * after.commands
    after-totals =
        let edit = begun-edited world book today command in
        let more = totals-billed_rows edited.payments edited.invoices today
        (issue.lines ++ own_lines command) in
        let same = ap totals_size edit.invoices in
        omega (arith, more, same, small, sound.totals, edit.commands)

    after-paid : paid_size after.invoices ≤ 2 ^ 64 * after.commands
    after-paid =
        let edit = begun-edited world book today command in
        let noted : with_paid book.payments edited.invoices ≡ edited.invoices =
        subst (λ (invoices : InvoicesValue). with_paid book.payments invoices ≡ invoices) (sym edit.invoices)
        sound.noted in
        let invoiced : AreInvoiced (length edited.invoices.rows) edited.payments =
        subst (λ (invoices : InvoicesValue). AreInvoiced (length invoices.rows) edited.payments)
        (sym edit.invoices)
        edited-sound.1 in
        let more = paid-billed_rows book.payments edited.payments edited.invoices today
        (issue.lines ++ own_lines command) noted moves invoiced in
        let same = ap paid_size edit.invoices in
        omega (arith, more, same, sound.paid, edit.commands)

    -- the book stays sound
    after-sound : IsBook after
    after-sound =
        let edit = begun-edited world book today command in
        record {
          billed = (
            world,
            after-billed sound.billed.0 world book edited (own_lines command) today sound sound.billed.1 edit,
          );
          matched = after-matched world book edited (own_lines command) today sound edit;
          below = after-below world book edited (own_lines command) today sound edit;
          issued = after-issued world book edited (own_lines command) today sound edit;
          totals = after-totals;
          paid = after-paid;
          beside = after-beside;
          noted = after-noted world book edited (own_lines command) today sound edit;
          few = omega (arith, few, edit.commands);
          credited = after-credited world book edited (own_lines command) today sound edit;
          owed = after-owed world book edited (own_lines command) today sound edit;
          levelled = after-levelled world book edited (own_lines command) today sound edit;
          owned = edited-sound.0;
          invoiced =
              invoiced-more (length book.invoices.rows) (length after.invoices.rows) edited.payments
              (after-more world book edited (own_lines command) today sound edit) edited-sound.1;
        }

    -- also with its answer kept
    pub sound-accepted : IsBook (accepted_over world book today command first_day charged_days).1
    sound-accepted =
        sound-keep command (key_of command) (billed_outcome edited today issue (own_lines command))
        after-sound
