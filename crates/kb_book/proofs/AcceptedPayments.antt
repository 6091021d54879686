-- The payments that an accepted command leaves: keys of the platform's own are those of automatic payments,
-- and no attempt is on an invoice that isn't there.
use Rattle.std.proofs.Common.{◌≡◌, ℕ, zero, suc, ◌≤◌, Bool, true, false, not, List, [], ◌∷◌, length, Option}
use Rattle.std.proofs.Common.{Some, None, refl, arith, ap, is_some, ◌==◌, true≢false}
use Rattle.std.proofs.lemmas.Bool.{eqb-true}
use Rattle.std.proofs.lemmas.Option.{none-some, slice_get_within}
use Rattle.kb_credit.specs.declared.row.Row.{Row}
use Rattle.kb_credit.specs.InvoiceRows.{InvoicesValue, numbered}
use Rattle.kb_payment.specs.declared.attempt.Attempt.{Attempt}
use Rattle.kb_payment.specs.declared.attempt.Kind.{Kind}
use Rattle.kb_payment.specs.declared.attempt.Status.{Status}
use Rattle.kb_payment.specs.declared.attempt.Kind.TheVariants.{Refund, Chargeback}
use Rattle.kb_payment.specs.declared.attempt.Status.TheVariants.{Unknown, Success}
use Rattle.kb_payment.specs.PaymentSums.{PaymentsValue, attempt_of, with_attempt}
use Rattle.kb_payment.specs.PaymentEdits.{purchase_of, amount_of, give_back_of, given_back, give_back_fault}
use Rattle.kb_codec.specs.declared.command.Command.{Command}
use Rattle.kb_codec.specs.declared.command.Command.TheVariants as kinds
use Rattle.kb_codec.specs.declared.action.Action.TheVariants as actions
use Rattle.kb_codec.specs.declared.action.Pay.{Pay}
use Rattle.kb_book.specs.declared.refusal.Refusal.{Refusal}
use Rattle.kb_book.specs.declared.refusal.Refusal.TheVariants as refusal
use Rattle.kb_book.specs.Worlds.{WorldValue}
use Rattle.kb_book.specs.Books.{BookValue}
use Rattle.kb_book.specs.PaymentRows.{is_own_key, balance_at, pay_rows, purchase_rows, fault_rows}
use Rattle.kb_book.specs.PaymentRows.{give_back_rows}
use Rattle.kb_book.specs.Inner.{invoice_due, may_be_paid, is_this}
use Rattle.kb_book.specs.Rows.{Rows, first_refusal}
use Rattle.kb_book.specs.Commands.{own_rows, auto_rows, begun}
use Rattle.kb_book.specs.Edits.{auto_key}
use Rattle.kb_book.proofs.OwnedKeys.{AreOwned, owned-other, owned-auto, owned-settled}
use Rattle.kb_book.proofs.InvoicedAttempts.{AreInvoiced, invoiced-put, invoiced-found, invoiced-settled}
use Rattle.kb_book.proofs.FreshKeys.{due_number}

-- where nothing is refused, the first refusal doesn't hold, and nor does any later one
pub first-none : (test : Bool) (refused : Refusal) (later : Rows)
    → first_refusal ((test, refused) ∷ later) ≡ None → (test ≡ false) × (first_refusal later ≡ None)
first-none true refused later none = absurd (cc)
first-none false refused later none = (refl, none)

-- payments whose keys of the platform's own are owned, and whose attempts are on invoices that are there
abbrev pub AreSound : ℕ → PaymentsValue → Type 0
AreSound count payments = AreOwned payments × AreInvoiced count payments

-- one more attempt under another key
sound-put : (count : ℕ) (payments : PaymentsValue) (key : List ℕ) (attempt : Attempt)
    → AreSound count payments
    → is_own_key key ≡ false → attempt.invoice ≤ count → AreSound count (with_attempt payments key attempt)
sound-put count payments key attempt sound other low =
    (owned-other payments key attempt sound.0 other, invoiced-put count payments key attempt sound.1 low)

-- some of a purchase is given back
sound-given_back : (count : ℕ) (kind : Kind) (status : Status) (payments : PaymentsValue) (key of : List ℕ)
    (amount day : ℕ) → AreSound count payments → is_own_key key ≡ false
    → AreSound count (given_back kind status payments key of amount day)
sound-given_back count kind status payments key of amount day sound other =
    by_found (attempt_of payments of) refl
  where
    by_found : (found : Option Attempt) → attempt_of payments of ≡ found
        → AreSound count (given_back kind status payments key of amount day)
    by_found None is = rw is sound
    by_found (Some purchase) is =
        rw is (sound-put count payments key (give_back_of kind status of purchase amount day) sound other
        (invoiced-found count payments of purchase sound.1 is))

-- the number of a row that is found is that of an invoice
number-found : (number : ℕ) (rows : List Row) (row : Row) → numbered number rows ≡ Some row
    → number ≤ length rows
number-found zero rows row is = absurd (none-some row is)
number-found (suc place) rows row is = omega (arith, slice_get_within rows place row is)

-- a payment that isn't refused is on an invoice that is there
paid-there : (payments : PaymentsValue) (c : Pay) (rows : List Row)
    → first_refusal (purchase_rows payments c (numbered c.invoice rows)) ≡ None → c.invoice ≤ length rows
paid-there payments c rows none = by_row (numbered c.invoice rows) refl none
  where
    by_row : (found : Option Row) → numbered c.invoice rows ≡ found
        → first_refusal (purchase_rows payments c found) ≡ None → c.invoice ≤ length rows
    by_row None is accepted = absurd (cc)
    by_row (Some row) is accepted = number-found c.invoice rows row is

-- an automatic payment that isn't refused is the one that is due
this-found : (found : Option ℕ) (invoice : ℕ) → not (is_this found invoice) ≡ false → found ≡ Some invoice
this-found None invoice is = absurd (true≢false is)
this-found (Some lowest) invoice is = by_test (lowest == invoice) refl is
  where
    by_test : (same : Bool) → (lowest == invoice) ≡ same → not same ≡ false → Some lowest ≡ Some invoice
    by_test true same this = ap (λ number. Some number) (eqb-true lowest invoice same)
    by_test false other this = absurd (true≢false this)

pub due-found : (autopay : Bool) (payments : PaymentsValue) (invoices : InvoicesValue) (today invoice : ℕ)
    → first_refusal (auto_rows autopay payments invoices today invoice) ≡ None
    → invoice_due true payments invoices today ≡ Some invoice
due-found true payments invoices today invoice none =
    this-found (invoice_due true payments invoices today) invoice
    (first-none (not (is_this (invoice_due true payments invoices today) invoice)) refusal.PaymentState []
    none).0
due-found false payments invoices today invoice none = absurd (cc)

-- a payment that isn't refused is of a new key, which isn't the platform's own
pub pay-new : (payments : PaymentsValue) (invoices : InvoicesValue) (c : Pay)
    → first_refusal (pay_rows payments invoices c) ≡ None
    → (is_own_key c.payment ≡ false) × (is_some (attempt_of payments c.payment) ≡ false)
    × (c.invoice ≤ length invoices.rows)
pay-new payments invoices c none =
    let purchase = purchase_rows payments c (numbered c.invoice invoices.rows) in
    let taken = is_some (attempt_of payments c.payment) in
    let own = first-none (is_own_key c.payment) refusal.BadName
    ((taken, refusal.KeyReused) ∷ purchase) none in
    let new = first-none taken refusal.KeyReused purchase own.1 in
    (own.0, new.0, paid-there payments c invoices.rows new.1)

-- nor is that of what is given back
give_back-other : (payments : PaymentsValue) (key of : List ℕ) (amount : ℕ)
    → first_refusal (give_back_rows payments key of amount) ≡ None → is_own_key key ≡ false
give_back-other payments key of amount none =
    (first-none (is_own_key key) refusal.BadName (fault_rows (give_back_fault payments key of amount)) none).0

module _ (world : WorldValue) (book : BookValue) (today : ℕ) where
  -- the payments of the edited book are sound
  pub payments-sound : (command : Command) → AreSound (length book.invoices.rows) book.payments
      → first_refusal (own_rows world book today command) ≡ None
      → AreSound (length book.invoices.rows) (begun world book today command).payments
  payments-sound (kinds.Act account key (actions.Pay c)) sound none =
      let new = pay-new book.payments book.invoices c none in
      sound-put (length book.invoices.rows) book.payments c.payment
      (purchase_of c.invoice (amount_of (balance_at book.invoices c.invoice) c.amount) today false) sound
      new.0 new.2
  payments-sound (kinds.Act account key (actions.Refund c)) sound none =
      sound-given_back (length book.invoices.rows) Refund Unknown book.payments c.payment c.of c.amount today
      sound
      (give_back-other book.payments c.payment c.of c.amount none)
  payments-sound (kinds.Act account key (actions.Chargeback c)) sound none =
      sound-given_back (length book.invoices.rows) Chargeback Success book.payments c.payment c.of c.amount
      today sound
      (give_back-other book.payments c.payment c.of c.amount none)
  payments-sound (kinds.Auto c) sound none =
      let due = due-found book.autopay book.payments book.invoices today c.invoice none in
      let found = due_number (may_be_paid book.payments today) 1 c.invoice book.invoices.rows due in
      let amount = amount_of (balance_at book.invoices c.invoice) None in (
        owned-auto book.payments c.invoice amount today sound.0,
        invoiced-put (length book.invoices.rows) book.payments (auto_key c.invoice today)
            (purchase_of c.invoice amount today true) sound.1 (omega (arith, found.2)),
      )
  payments-sound (kinds.Settle c) sound none = (
    owned-settled book.payments c.payment c.status sound.0,
    invoiced-settled (length book.invoices.rows) book.payments c.payment c.status sound.1,
  )
  payments-sound command sound none = sound
