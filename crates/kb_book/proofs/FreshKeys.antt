-- An automatic payment that may be made has a key of which there is no attempt yet.
use Rattle.std.proofs.Common.{◌≡◌, ℕ, ◌+◌, ◌<◌, ◌≤◌, ◌^◌, ◌⊎◌, inl, inr, Bool, true, false, ◌&&◌}
use Rattle.std.proofs.Common.{nat_le, List, [], ◌∷◌, Option, Some, None, All, refl, ap, sym, ◌∙◌, arith}
use Rattle.std.proofs.Common.{true≢false, not, if◌then◌else◌, int_lt, pos, length}
use Rattle.std.specs.List.{find, list_any}
use Rattle.std.proofs.lemmas.Option.{none-some}
use Rattle.std.proofs.lemmas.Bool.{eq-eqb, le-leb, cases_lt}
use Rattle.std.proofs.lemmas.List.Elements.{All-nil, All-cons}
use Rattle.kb_days.specs.Calendar.{last_day}
use Rattle.kb_days.specs.DateText.{date_text}
use Rattle.kb_payment.specs.declared.attempt.Attempt.{Attempt}
use Rattle.kb_payment.specs.Attempts.{is_automatic}
use Rattle.kb_payment.specs.PaymentSums.{PaymentsValue, attempt_of, has_automatic_since, open_purchases}
use Rattle.kb_credit.specs.declared.row.Row.{Row}
use Rattle.kb_credit.specs.InvoiceRows.{InvoicesValue, is_unpaid, unpaid_numbers}
use Rattle.kb_book.specs.Inner.{invoice_due, may_be_paid}
use Rattle.kb_book.proofs.FoundEntries.{same_keys, All-find}
use Rattle.kb_book.specs.OwnKeys.{IsOwned}
use Rattle.kb_book.specs.Edits.{auto_key}
use Rattle.kb_book.proofs.AutoKeys.{auto_key-invoice, auto_key-day, date_text-injective}
use Rattle.kb_book.proofs.OwnedKeys.{AreOwned}
use Rattle.kb_book.proofs.InvoicedAttempts.{AreInvoiced}

-- where none passes a test, each fails it
none-each : {A : Type 0} (test : A → Bool) (members : List A) → list_any test members ≡ false
    → All (λ (member : A). test member ≡ false) members
none-each test [] none = All-nil (λ member. test member ≡ false)
none-each test (member ∷ later) none =
    by_test (test member) refl (none-each test later)
  where
    by_test : (passes : Bool) → test member ≡ passes
        → (list_any test later ≡ false → All (λ member. test member ≡ false) later)
        → All (λ member. test member ≡ false) (member ∷ later)
    by_test true is rest = absurd (true≢false (rw is at none))
    by_test false is rest = All-cons (λ member. test member ≡ false) member later is (rest (rw is at none))

-- an automatic attempt of an invoice, of a day or later
abbrev automatic_since : ℕ → ℕ → Attempt → Bool
automatic_since invoice day attempt = is_automatic invoice attempt && nat_le day attempt.day

-- an attempt of the key of an invoice and a day is one
since-key : (attempt : Attempt) (invoice today : ℕ) → IsOwned (auto_key invoice today) attempt
    → attempt.invoice < 2 ^ 64 → invoice < 2 ^ 64 → today ≤ last_day
    → automatic_since invoice today attempt ≡ true
since-key attempt invoice today owned low high last =
    let own = owned refl in
    let same : attempt.invoice ≡ invoice =
    sym (auto_key-invoice invoice today attempt.invoice attempt.day high low own.0) in
    let text : date_text today ≡ date_text attempt.day =
    auto_key-day invoice today attempt.invoice attempt.day own.0 in
    let late : today ≤ attempt.day = by_order (cases_lt attempt.day today) text in
    rw (eq-eqb attempt.invoice invoice same, own.1, le-leb today attempt.day late) refl
  where
    by_order : (attempt.day < today) ⊎ (today ≤ attempt.day) → date_text today ≡ date_text attempt.day
        → today ≤ attempt.day
    by_order (inl before) text =
        let day = date_text-injective today attempt.day last (omega arith) text in omega (arith, day)
    by_order (inr after) text = after

-- an invoice without an automatic attempt of a day or later has none under its key of the day
pub fresh-auto : (payments : PaymentsValue) (invoice today count : ℕ) → AreOwned payments
    → AreInvoiced count payments → invoice ≤ count → count < 2 ^ 64 → today ≤ last_day
    → has_automatic_since payments invoice today ≡ false → attempt_of payments (auto_key invoice today) ≡ None
fresh-auto payments invoice today count owned invoiced low few last none =
    by_found (attempt_of payments (auto_key invoice today)) refl
  where
    by_found : (found : Option Attempt) → attempt_of payments (auto_key invoice today) ≡ found
        → attempt_of payments (auto_key invoice today) ≡ None
    by_found None is = is
    by_found (Some attempt) is =
        let key = auto_key invoice today in
        let own : IsOwned key attempt =
        All-find same_keys (λ (entry : List ℕ × Attempt). IsOwned entry.0 entry.1) key attempt payments owned
        is in
        let number : attempt.invoice ≤ count =
        All-find same_keys (λ (entry : List ℕ × Attempt). entry.1.invoice ≤ count) key attempt payments
        invoiced is in
        let before : automatic_since invoice today attempt ≡ false =
        All-find same_keys (λ (entry : List ℕ × Attempt). automatic_since invoice today entry.1 ≡ false) key
        attempt
        payments
        (none-each (λ (entry : List ℕ × Attempt). automatic_since invoice today entry.1) payments none) is in
        let since : automatic_since invoice today attempt ≡ true =
        since-key attempt invoice today own (omega arith) (omega arith) last in
        absurd (true≢false (sym since ∙ before))

-- a number that is found among the unpaid ones passes the test, and is that of an invoice
pub due_number : (test : ℕ → Bool) (number invoice : ℕ) (rows : List Row)
    → find test (unpaid_numbers number rows) ≡ Some invoice
    → (test invoice ≡ true) × (number ≤ invoice) × (invoice < number + length rows)
due_number test number invoice [] is = absurd (none-some invoice is)
due_number test number invoice (row ∷ rows) is =
    by_unpaid (is_unpaid row) refl (due_number test (number + 1) invoice rows)
  where
    passed : (passes : Bool) → test number ≡ passes
        → (if passes then Some number else find test (unpaid_numbers (number + 1) rows)) ≡ Some invoice
        → (find test (unpaid_numbers (number + 1) rows) ≡ Some invoice
        → (test invoice ≡ true) × (number + 1 ≤ invoice) × (invoice < number + 1 + length rows))
        → (test invoice ≡ true) × (number ≤ invoice) × (invoice < number + length (row ∷ rows))
    passed true passes found rest =
        let same : number ≡ invoice = cc in (sym (ap test same) ∙ passes, omega arith, omega arith)
    passed false fails found rest =
        let later = rest found in (later.0, omega (arith, later.1), omega (arith, later.2))

    by_unpaid : (unpaid : Bool) → is_unpaid row ≡ unpaid
        → (find test (unpaid_numbers (number + 1) rows) ≡ Some invoice
        → (test invoice ≡ true) × (number + 1 ≤ invoice) × (invoice < number + 1 + length rows))
        → (test invoice ≡ true) × (number ≤ invoice) × (invoice < number + length (row ∷ rows))
    by_unpaid true owed rest = passed (test number) refl (rw owed at is) rest
    by_unpaid false owed rest = let later =
        rest (rw owed at is) in (later.0, omega (arith, later.1), omega (arith, later.2))

-- the automatic payment that is due has a key of which there is no attempt yet
pub fresh-due : (payments : PaymentsValue) (invoices : InvoicesValue) (today invoice : ℕ) → AreOwned payments
    → AreInvoiced (length invoices.rows) payments → length invoices.rows < 2 ^ 64 → today ≤ last_day
    → invoice_due true payments invoices today ≡ Some invoice
    → attempt_of payments (auto_key invoice today) ≡ None
fresh-due payments invoices today invoice owned invoiced few last due =
    let found = due_number (may_be_paid payments today) 1 invoice invoices.rows due in
    fresh-auto payments invoice today (length invoices.rows) owned invoiced (omega (arith, found.2)) few last
    (not_since (not (int_lt (pos 0) (open_purchases payments invoice)))
    (has_automatic_since payments invoice today)
    found.0)
  where
    not_since : (none since : Bool) → (none && not since) ≡ true → since ≡ false
    not_since true false is = refl
    not_since true true is = absurd (true≢false (sym is))
    not_since false since is = absurd (true≢false (sym is))
