-- An attempt stays as it is until it is settled, and for good once it is final.
use Rattle.std.proofs.Common.{◌≡◌, ℕ, ◌≤◌, ◌⊎◌, inl, inr, true, false, ◌&&◌, List}
use Rattle.std.proofs.Common.{Some, None, bytes_eq, sym, ap, ◌∙◌}
use Rattle.kb_days.specs.Calendar.{last_day}
use Rattle.kb_payment.specs.declared.attempt.Attempt.{Attempt}
use Rattle.kb_payment.specs.Attempts.{is_open}
use Rattle.kb_payment.specs.PaymentSums.{attempt_of}
use Rattle.kb_codec.specs.declared.command.Command.{Command}
use Rattle.kb_codec.specs.declared.command.Command.TheVariants as kinds
use Rattle.kb_codec.specs.declared.command.Settle.{Settle}
use Rattle.kb_book.specs.Books.{BookValue}
use Rattle.kb_account.specs.Prepares.{opening_book}
use Rattle.kb_book.proofs.RepeatedCommands.{bytes_eq-self}
use Rattle.kb_machine.specs.Judged.{after_judged}
use Rattle.kb_machine.specs.Machines.{MachineValue, book_of, judged, opening}
use Rattle.kb_codec.specs.Senders.{account_of}
use Rattle.kb_histories.specs.Attempts.{attempt_in, attempt_at, settles}
use Rattle.kb_histories.specs.PaymentKeys.{AreKeyed}
use Rattle.kb_histories.specs.Stays.{AttemptsStay, FinalAttemptsStay}
use Rattle.kb_histories.proofs.FoundEntries.{found-put}
use Rattle.kb_histories.proofs.JudgedCases.{judged-cases, accepted_on}
use Rattle.kb_histories.proofs.AcceptedBooks.{accepted-payments, own-none, begun-stays}

module _ (machine : MachineValue) (today : ℕ) (command : Command) (account key : List ℕ) (attempt : Attempt)
    (keyed : AreKeyed machine) (last : today ≤ last_day)
    (is : attempt_at machine account key ≡ Some attempt) where
  -- it stays where no settlement is of it, or where it is final
  stays : ((c : Settle) → command ≡ kinds.Settle c → bytes_eq account c.account ≡ true
      → (bytes_eq key c.payment ≡ false) ⊎ (is_open attempt.status ≡ false))
      → attempt_at (after_judged machine (judged machine today command)) account key ≡ Some attempt
  stays unsettled =
      judged-cases machine today
      (λ comes. attempt_at (after_judged machine comes) account key ≡ Some attempt) (λ reply. is)
      (λ refusal. is) command (λ text reply texts. is)
      (λ name request c opens none.
      found-put account (account_of command)
      (accepted_on machine today (opening name request c) (opening_book (opening name request c))).1
      machine.books
      (λ found. attempt_in key found ≡ Some attempt) (λ other. is) (λ same. absurd (gone same none)))
      (λ book there none.
      found-put account (account_of command) (accepted_on machine today command book).1 machine.books
      (λ found. attempt_in key found ≡ Some attempt) (λ other. is)
      (λ same.
      ap (λ payments. attempt_of payments key) (accepted-payments machine.texts.world book today command)
      ∙ begun-stays machine.texts.world book today command key attempt
      (keyed.keyed (account_of command) book there) last
      (own-none machine.texts.world book today command none)
      (here book same there) (λ c settling. unsettled c settling (own c settling same))))
    where
      gone : account ≡ account_of command → book_of machine (account_of command) ≡ None → ⊥
      gone same none =
          let told : attempt_in key (book_of machine (account_of command)) ≡ Some attempt = rw same at is in
          let lost = rw none at told in cc

      here : (book : BookValue) → account ≡ account_of command
          → book_of machine (account_of command) ≡ Some book → attempt_of book.payments key ≡ Some attempt
      here book same there =
          let told : attempt_in key (book_of machine (account_of command)) ≡ Some attempt = rw same at is in
          rw there at told

      own : (c : Settle) → command ≡ kinds.Settle c → account ≡ account_of command
          → bytes_eq account c.account ≡ true
      own c settling same =
          let one : account ≡ c.account = same ∙ ap account_of settling in
          rw one (bytes_eq-self c.account)

pub attempts_stay : AttemptsStay
attempts_stay machine today command account key attempt keyed last is other =
    stays machine today command account key attempt keyed last is
    (λ c settling here. inl (unsettled c here (sym (ap (λ some. settles some account key) settling) ∙ other)))
  where
    unsettled : (c : Settle) → bytes_eq account c.account ≡ true
        → (bytes_eq account c.account && bytes_eq key c.payment) ≡ false → bytes_eq key c.payment ≡ false
    unsettled c here none = rw here at none

pub final_attempts_stay : FinalAttemptsStay
final_attempts_stay machine today command account key attempt keyed last is closed =
    stays machine today command account key attempt keyed last is
    (λ c settling here. inr closed)
