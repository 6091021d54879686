-- What an accepted command leaves of a book's name, and of its payments.
use Rattle.std.proofs.Common.{◌≡◌, ℕ, ◌≤◌, ◌⊎◌, inl, inr, true, false, not, ◌&&◌, List, []}
use Rattle.std.proofs.Common.{Option, Some, None, is_some, bytes_eq, refl, sym, ◌∙◌, true≢false}
use Rattle.kb_days.specs.Calendar.{last_day, first_day, charged_days}
use Rattle.kb_payment.specs.declared.attempt.Attempt.{Attempt}
use Rattle.kb_payment.specs.declared.attempt.Kind.{Kind}
use Rattle.kb_payment.specs.declared.attempt.Kind.TheVariants.{Refund, Chargeback}
use Rattle.kb_payment.specs.declared.attempt.Status.{Status}
use Rattle.kb_payment.specs.declared.attempt.Status.TheVariants.{Unknown, Success}
use Rattle.kb_payment.specs.Attempts.{is_open, with_status}
use Rattle.kb_payment.specs.PaymentSums.{PaymentsValue, attempt_of, with_attempt}
use Rattle.kb_payment.specs.PaymentEdits.{amount_of, purchase_of, give_back_of, given_back, settled}
use Rattle.kb_codec.specs.declared.command.Command.{Command}
use Rattle.kb_codec.specs.declared.command.Command.TheVariants as kinds
use Rattle.kb_codec.specs.declared.action.Action.TheVariants as actions
use Rattle.kb_codec.specs.declared.command.Auto.{Auto}
use Rattle.kb_codec.specs.declared.command.Settle.{Settle}
use Rattle.kb_book.specs.declared.refusal.Refusal.TheVariants as refusal
use Rattle.kb_book.specs.Worlds.{WorldValue}
use Rattle.kb_book.specs.Books.{BookValue}
use Rattle.kb_book.specs.PaymentRows.{balance_at, may_settle, same_status}
use Rattle.kb_book.specs.Rows.{first_refusal, limit}
use Rattle.kb_book.specs.Commands.{own_rows, max_commands, begun, own_lines}
use Rattle.kb_book.specs.Edits.{auto_key}
use Rattle.kb_book.specs.Steps.{Outcome, keep, accepted_over, billed_outcome, issue_over}
use Rattle.kb_codec.specs.Senders.{key_of}
use Rattle.kb_book.specs.Steps.{rows_of, has_all_commands}
use Rattle.kb_book.proofs.AcceptedPayments.{first-none, due-found, pay-new}
use Rattle.kb_book.proofs.FreshKeys.{fresh-due}
use Rattle.kb_book.proofs.RepeatedCommands.{bytes_eq-self, find-put-self}
use Rattle.kb_account.proofs.PaymentMoves.{give_back-found}
use Rattle.kb_histories.specs.Attempts.{begun_key}
use Rattle.kb_histories.specs.PaymentKeys.{IsKeyed}
use Rattle.kb_histories.proofs.FoundEntries.{found-put}

-- keeping an answer leaves both
keep-account : (command : Command) (key : Option (List ℕ)) (outcome : Outcome)
    → (keep command key outcome).1.account ≡ outcome.1.account
keep-account command None outcome = refl
keep-account command (Some key) outcome = refl

keep-payments : (command : Command) (key : Option (List ℕ)) (outcome : Outcome)
    → (keep command key outcome).1.payments ≡ outcome.1.payments
keep-payments command None outcome = refl
keep-payments command (Some key) outcome = refl

-- what isn't there is none
no-attempt : (found : Option Attempt) → is_some found ≡ false → found ≡ None
no-attempt None is = refl
no-attempt (Some attempt) is = absurd (cc)

-- an attempt that is found stays where one is put in of which there was none
found-stays : (payments : PaymentsValue) (own key : List ℕ) (attempt new : Attempt)
    → attempt_of payments own ≡ None → attempt_of payments key ≡ Some attempt
    → attempt_of (with_attempt payments own new) key ≡ Some attempt
found-stays payments own key attempt new none is =
    found-put key own new payments (λ found. found ≡ Some attempt) (λ other. is)
    (λ same. absurd (let gone : attempt_of payments key ≡ None = rw same none in cc))

-- a command's own edit leaves the name
begun-account : (world : WorldValue) (book : BookValue) (today : ℕ) (command : Command)
    → (begun world book today command).account ≡ book.account
begun-account world book today (kinds.Act account key (actions.Create c)) = refl
begun-account world book today command = refl

module _ (world : WorldValue) (book : BookValue) (today : ℕ) (command : Command) where
  -- an accepted command leaves its name
  pub accepted-account : (accepted_over world book today command first_day charged_days).1.account
      ≡ book.account
  accepted-account =
      let edited : BookValue = begun world book today command in
      keep-account command (key_of command)
      (billed_outcome edited today (issue_over world edited first_day charged_days) (own_lines command))
      ∙ begun-account world book today command

  -- and the payments that its own edit makes
  pub accepted-payments : (accepted_over world book today command first_day charged_days).1.payments
      ≡ (begun world book today command).payments
  accepted-payments =
      let edited : BookValue = begun world book today command in
      keep-payments command (key_of command)
      (billed_outcome edited today (issue_over world edited first_day charged_days) (own_lines command))

  -- none of its own refusals holds
  pub own-none : first_refusal (rows_of world book today command) ≡ None
      → first_refusal (own_rows world book today command) ≡ None
  own-none none =
      (first-none (has_all_commands book (key_of command)) (limit 5 max_commands)
      (own_rows world book today command) none).1

module _ (world : WorldValue) (book : BookValue) (today : ℕ) where
  -- the payments that a command's own edit makes
  abbrev begun_payments : Command → PaymentsValue
  begun_payments command = (begun world book today command).payments

  -- the key of an automatic payment that is accepted is free
  auto-free : (c : Auto) → IsKeyed book → today ≤ last_day
      → first_refusal (own_rows world book today (kinds.Auto c)) ≡ None
      → attempt_of book.payments (auto_key c.invoice today) ≡ None
  auto-free c keyed last none =
      fresh-due book.payments book.invoices today c.invoice keyed.owned keyed.invoiced keyed.few last
      (due-found book.autopay book.payments book.invoices today c.invoice none)

  -- so is that of each command that begins an attempt
  pub key-free : (command : Command) (key : List ℕ) → IsKeyed book → today ≤ last_day
      → first_refusal (own_rows world book today command) ≡ None
      → begun_key today command ≡ Some key → attempt_of book.payments key ≡ None
  key-free (kinds.Act account request (actions.Pay c)) key keyed last none is =
      let same : c.payment ≡ key = cc in
      rw (← same) (no-attempt (attempt_of book.payments c.payment)
      (pay-new book.payments book.invoices c none).1)
  key-free (kinds.Act account request (actions.Refund c)) key keyed last none is =
      let same : c.payment ≡ key = cc in
      rw (← same) (give_back-found book.payments c.payment c.of c.amount none).0
  key-free (kinds.Auto c) key keyed last none is =
      let same : auto_key c.invoice today ≡ key = cc in
      rw (← same) (auto-free c keyed last none)
  key-free command key keyed last none is = absurd (cc)

  -- the attempt that begins is found
  pub begun-found : (command : Command) (key : List ℕ)
      → first_refusal (own_rows world book today command) ≡ None → begun_key today command ≡ Some key
      → (attempt : Attempt) × (attempt_of (begun_payments command) key ≡ Some attempt)
      × (attempt.status ≡ Unknown)
  begun-found (kinds.Act account request (actions.Pay c)) key none is =
      let same : c.payment ≡ key = cc in
      let attempt : Attempt = purchase_of c.invoice (amount_of (balance_at book.invoices c.invoice) c.amount)
      today false in
      (attempt, rw (← same) (find-put-self c.payment attempt book.payments), refl)
  begun-found (kinds.Act account request (actions.Refund c)) key none is =
      let same : c.payment ≡ key = cc in
      let found = give_back-found book.payments c.payment c.of c.amount none in
      let attempt : Attempt = give_back_of Refund Unknown c.of found.1.0 c.amount today in
      (attempt, rw (← same, found.1.1) (find-put-self c.payment attempt book.payments), refl)
  begun-found (kinds.Auto c) key none is =
      let same : auto_key c.invoice today ≡ key = cc in
      let attempt : Attempt = purchase_of c.invoice (amount_of (balance_at book.invoices c.invoice) None)
      today true in
      (attempt, rw (← same) (find-put-self (auto_key c.invoice today) attempt book.payments), refl)
  begun-found command key none is = absurd (cc)

  -- an attempt stays where some of a purchase is given back under another key
  given_back-stays : (kind : Kind) (status : Status) (own of key : List ℕ) (amount : ℕ) (attempt : Attempt)
      → attempt_of book.payments own ≡ None → attempt_of book.payments key ≡ Some attempt
      → attempt_of (given_back kind status book.payments own of amount today) key ≡ Some attempt
  given_back-stays kind status own of key amount attempt none is =
      by_found (attempt_of book.payments of) refl
    where
      by_found : (found : Option Attempt) → attempt_of book.payments of ≡ found
          → attempt_of (given_back kind status book.payments own of amount today) key ≡ Some attempt
      by_found None gone = rw gone is
      by_found (Some purchase) there =
          rw there (found-stays book.payments own key attempt
          (give_back_of kind status of purchase amount today) none is)

  -- and where a settlement is accepted, if it is of another one, or this one is final
  settled-stays : (c : Settle) (key : List ℕ) (attempt : Attempt)
      → first_refusal (own_rows world book today (kinds.Settle c)) ≡ None
      → attempt_of book.payments key ≡ Some attempt
      → (bytes_eq key c.payment ≡ false) ⊎ (is_open attempt.status ≡ false)
      → attempt_of (settled book.payments c.payment c.status) key ≡ Some attempt
  settled-stays c key attempt none is stays =
      by_found (attempt_of book.payments c.payment) refl
      (first-none (not (may_settle (attempt_of book.payments c.payment) c.status)) refusal.PaymentState []
      none).0
    where
      not_this : (found : Attempt) → found ≡ attempt
          → not (is_open found.status && not (same_status found.status c.status)) ≡ false
          → (bytes_eq key c.payment ≡ false) ⊎ (is_open attempt.status ≡ false) → key ≡ c.payment
          → Some (with_status found c.status) ≡ Some attempt
      not_this found one may (inl other) same =
          let here : bytes_eq key c.payment ≡ true = rw same (bytes_eq-self c.payment) in
          absurd (true≢false (sym here ∙ other))
      not_this found one may (inr closed) same =
          let here : is_open found.status ≡ false = rw one closed in
          absurd (true≢false (rw here at may))

      by_found : (found : Option Attempt) → attempt_of book.payments c.payment ≡ found
          → not (may_settle (attempt_of book.payments c.payment) c.status) ≡ false
          → attempt_of (settled book.payments c.payment c.status) key ≡ Some attempt
      by_found None gone may = rw gone is
      by_found (Some found) there may =
          let told : not (is_open found.status && not (same_status found.status c.status)) ≡ false =
          rw there at may in
          rw there (found-put key c.payment (with_status found c.status) book.payments
          (λ entry. entry ≡ Some attempt) (λ other. is)
          (λ same.
          let here : attempt_of book.payments c.payment ≡ Some attempt = rw same at is in
          let one : found ≡ attempt = cc in
          not_this found one told stays same))

  -- so it stays after each command that doesn't settle it
  pub begun-stays : (command : Command) (key : List ℕ) (attempt : Attempt) → IsKeyed book
      → today ≤ last_day → first_refusal (own_rows world book today command) ≡ None
      → attempt_of book.payments key ≡ Some attempt
      → ((c : Settle) → command ≡ kinds.Settle c
      → (bytes_eq key c.payment ≡ false) ⊎ (is_open attempt.status ≡ false))
      → attempt_of (begun_payments command) key ≡ Some attempt
  begun-stays (kinds.Act account request (actions.Pay c)) key attempt keyed last none is stays =
      found-stays book.payments c.payment key attempt
      (purchase_of c.invoice (amount_of (balance_at book.invoices c.invoice) c.amount) today false)
      (key-free (kinds.Act account request (actions.Pay c)) c.payment keyed last none refl) is
  begun-stays (kinds.Act account request (actions.Refund c)) key attempt keyed last none is stays =
      given_back-stays Refund Unknown c.payment c.of key c.amount attempt
      (give_back-found book.payments c.payment c.of c.amount none).0 is
  begun-stays (kinds.Act account request (actions.Chargeback c)) key attempt keyed last none is stays =
      given_back-stays Chargeback Success c.payment c.of key c.amount attempt
      (give_back-found book.payments c.payment c.of c.amount none).0 is
  begun-stays (kinds.Auto c) key attempt keyed last none is stays =
      found-stays book.payments (auto_key c.invoice today) key attempt
      (purchase_of c.invoice (amount_of (balance_at book.invoices c.invoice) None) today true)
      (auto-free c keyed last none) is
  begun-stays (kinds.Settle c) key attempt keyed last none is stays =
      settled-stays c key attempt none is (stays c refl)
  begun-stays command key attempt keyed last none is stays = is
