-- What a settlement makes of its attempt, and when it is new.
use Rattle.std.proofs.Common.{◌≡◌, ℕ, true, false, bytes_eq, List, Option, Some, None, refl, sym, ap}
use Rattle.std.proofs.Common.{◌∙◌, true≢false}
use Rattle.kb_payment.specs.declared.attempt.Attempt.{Attempt}
use Rattle.kb_payment.specs.declared.attempt.Status.{Status}
use Rattle.kb_payment.specs.Attempts.{with_status}
use Rattle.kb_payment.specs.PaymentSums.{PaymentsValue, attempt_of}
use Rattle.kb_payment.specs.PaymentEdits.{settled}
use Rattle.kb_codec.specs.declared.command.Command.{Command}
use Rattle.kb_codec.specs.declared.command.Command.TheVariants as kinds
use Rattle.kb_book.specs.Books.{BookValue}
use Rattle.kb_machine.specs.Judged.{after_judged, is_new}
use Rattle.kb_machine.specs.Machines.{MachineValue, book_of}
use Rattle.kb_histories.specs.Attempts.{attempt_in, attempt_at}
use Rattle.kb_histories.specs.Settlements.{SettlementsSettle, SettlementsAreNew, SettlementsLeaveOthers}
use Rattle.kb_book.proofs.RepeatedCommands.{bytes_eq-self, find-put-self}
use Rattle.kb_histories.proofs.PutEntries.{find-put-other}
use Rattle.kb_histories.proofs.FoundEntries.{found-put}
use Rattle.kb_histories.proofs.JudgedCases.{judged-cases, accepted_on, accepted-new}
use Rattle.kb_histories.proofs.AcceptedBooks.{accepted-payments}

-- an attempt that is settled has its status
settled-found : (payments : PaymentsValue) (key : List ℕ) (status : Status) (attempt : Attempt)
    → attempt_of payments key ≡ Some attempt
    → attempt_of (settled payments key status) key ≡ Some (with_status attempt status)
settled-found payments key status attempt is =
    rw is (find-put-self key (with_status attempt status) payments)

-- the attempt of an account is one of its book
attempt-book : (machine : MachineValue) (account key : List ℕ) (attempt : Attempt)
    → attempt_at machine account key ≡ Some attempt
    → (book : BookValue) × (book_of machine account ≡ Some book)
    × (attempt_of book.payments key ≡ Some attempt)
attempt-book machine account key attempt is = by_found (book_of machine account) refl is
  where
    by_found : (found : Option BookValue) → book_of machine account ≡ found
        → attempt_in key found ≡ Some attempt
        → (book : BookValue) × (book_of machine account ≡ Some book)
        × (attempt_of book.payments key ≡ Some attempt)
    by_found None none found = absurd (cc)
    by_found (Some book) there found = (book, there, found)

pub settlements_settle : SettlementsSettle
settlements_settle machine today account key status attempt is new =
    judged-cases machine today
    (λ comes. is_new comes ≡ true
    → attempt_at (after_judged machine comes) account key ≡ Some (with_status attempt status))
    (λ reply again. absurd (true≢false (sym again))) (λ refusal refused. absurd (true≢false (sym refused)))
    settlement (λ text. absurd (true≢false (sym text))) (λ name request c opens. absurd (cc))
    (λ book there none accepted.
    ap (attempt_in key) (find-put-self account (accepted_on machine today settlement book).1 machine.books)
    ∙ ap (λ payments. attempt_of payments key)
    (accepted-payments machine.texts.world book today settlement)
    ∙ settled-found book.payments key status attempt (here book there)) new
  where
    settlement : Command
    settlement = kinds.Settle (record { account = account; payment = key; status = status })

    here : (book : BookValue) → book_of machine account ≡ Some book
        → attempt_of book.payments key ≡ Some attempt
    here book there = rw there at is

pub settlements_are_new : SettlementsAreNew
settlements_are_new machine today account key status attempt is opened other =
    let found = attempt-book machine account key attempt is in
    accepted-new machine today
    (kinds.Settle (record { account = account; payment = key; status = status })) found.0 found.1 refl
    (rw (found.2, opened, other) refl)

-- the attempt of another key is as it was
other-stays : (payments : PaymentsValue) (own key : List ℕ) (status : Status) → bytes_eq key own ≡ false
    → attempt_of (settled payments own status) key ≡ attempt_of payments key
other-stays payments own key status other = by_found (attempt_of payments own) refl
  where
    by_found : (found : Option Attempt) → attempt_of payments own ≡ found
        → attempt_of (settled payments own status) key ≡ attempt_of payments key
    by_found None is = rw is refl
    by_found (Some attempt) is = rw is (find-put-other key own (with_status attempt status) payments other)

pub settlements_leave_others : SettlementsLeaveOthers
settlements_leave_others machine today c account key free =
    judged-cases machine today
    (λ comes. attempt_at (after_judged machine comes) account key ≡ attempt_at machine account key)
    (λ reply. refl) (λ refusal. refl) (kinds.Settle c) (λ text. absurd (true≢false (sym text)))
    (λ name request c opens. absurd (cc))
    (λ book there none.
    found-put account c.account (accepted_on machine today (kinds.Settle c) book).1 machine.books
    (λ found. attempt_in key found ≡ attempt_at machine account key) (λ other. refl)
    (λ same.
    ap (λ payments. attempt_of payments key)
    (accepted-payments machine.texts.world book today (kinds.Settle c))
    ∙ other-stays book.payments c.payment key c.status (other-key same)
    ∙ sym (ap (attempt_in key) (ap (book_of machine) same ∙ there))))
  where
    other-key : account ≡ c.account → bytes_eq key c.payment ≡ false
    other-key same =
        let here : bytes_eq account c.account ≡ true = rw same (bytes_eq-self c.account) in rw here at free
