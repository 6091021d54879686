-- What is paid after an attempt is put in, and which attempts stay.
use Rattle.std.proofs.Common.{◌≡◌, ℕ, ap, ◌∙◌, refl, Bool, true, false, not, List, None, Some}
use Rattle.std.proofs.Common.{ℤ, pos, ◌+ℤ◌, ◌&&◌, arith, ◌==◌, if◌then◌else◌}
use Rattle.std.specs.Cmp.Lexicographic.{nat_list_cmp_total}
use Rattle.std.proofs.lemmas.Int.{ints}
use Rattle.std.proofs.lemmas.Bool.{and_right}
use Rattle.kb_payment.specs.declared.attempt.Attempt.{Attempt}
use Rattle.kb_payment.specs.declared.attempt.Status.{Status}
use Rattle.kb_payment.specs.Attempts.{is_open, is_success, signed, paid_by, with_status}
use Rattle.kb_sharing.specs.Keys.{by_words}
use Rattle.kb_payment.specs.PaymentSums.{PaymentsValue, attempt_of, with_attempt, paid_on, StayFinal, Moves}
use Rattle.kb_payment.specs.SoundPayments.{ArePayments}
use Rattle.kb_payment.proofs.PutEntries.{same_keys}
use Rattle.kb_payment.proofs.PutSums.{sum-put_new, sum-put_old}
use Rattle.kb_payment.proofs.FoundAttempts.{Stay-new, Stay-other}
use Rattle.kb_payment.proofs.Settlements.{open_unpaid}

-- what an attempt pays, by its status
paid_by-at : (attempt : Attempt) (invoice : ℕ) (success : Bool) → is_success attempt.status ≡ success
    → paid_by invoice attempt
    ≡ (if (attempt.invoice == invoice) && success then signed attempt.kind attempt.amount else pos 0)
paid_by-at attempt invoice success is =
    ap (λ b. if (attempt.invoice == invoice) && b then signed attempt.kind attempt.amount else pos 0) is

-- nothing if it isn't a success
paid_by-none : (attempt : Attempt) (invoice : ℕ) → is_success attempt.status ≡ false
    → paid_by invoice attempt ≡ pos 0
paid_by-none attempt invoice is =
    paid_by-at attempt invoice false is
    ∙ ap (λ b. if b then signed attempt.kind attempt.amount else pos 0)
    (and_right (attempt.invoice == invoice) false refl)

-- and then that on its invoice alone
here_only : (same success : Bool) (amount : ℤ)
    → (if same && success then amount else pos 0)
    ≡ (if same then (if success then amount else pos 0) else pos 0)
here_only true success amount = refl
here_only false success amount = refl

paid_by-here : (attempt : Attempt) (invoice : ℕ) → paid_by invoice attempt
    ≡ (if attempt.invoice == invoice then
    (if is_success attempt.status then signed attempt.kind attempt.amount else pos 0) else pos 0)
paid_by-here attempt invoice =
    here_only (attempt.invoice == invoice) (is_success attempt.status) (signed attempt.kind attempt.amount)

-- a new attempt moves what is paid by what it pays
pub Moves-new : (payments : PaymentsValue) (key : List ℕ) (attempt : Attempt) → attempt_of payments key ≡ None
    → Moves payments (with_attempt payments key attempt) attempt.invoice
    (if is_success attempt.status then signed attempt.kind attempt.amount else pos 0)
Moves-new payments key attempt fresh invoice =
    let sums = sum-put_new by_words (paid_by invoice) key attempt payments fresh in
    let here = paid_by-here attempt invoice in
    sums ∙ ap (paid_on payments invoice +ℤ◌) here

-- a purchase or a refund that begins moves nothing
pub Stays-new : (payments : PaymentsValue) (key : List ℕ) (attempt : Attempt) → attempt_of payments key ≡ None
    → is_success attempt.status ≡ false → (invoice : ℕ)
    → paid_on (with_attempt payments key attempt) invoice ≡ paid_on payments invoice
Stays-new payments key attempt fresh is invoice =
    let sums = sum-put_new by_words (paid_by invoice) key attempt payments fresh in
    let none = paid_by-none attempt invoice is in
    omega (arith, ints)

-- a settlement moves it by what the attempt pays from now on
pub Moves-settled : (payments : PaymentsValue) (key : List ℕ) (old : Attempt) (status : Status)
    → ArePayments payments
    → attempt_of payments key ≡ Some old → is_open old.status ≡ true
    → Moves payments (with_attempt payments key (with_status old status)) old.invoice
    (if is_success status then signed old.kind old.amount else pos 0)
Moves-settled payments key old status are there opened invoice =
    let sums = sum-put_old by_words (paid_by invoice) nat_list_cmp_total same_keys key
    (with_status old status) old payments are.sorted there in
    let before = paid_by-none old invoice (open_unpaid old.status opened) in
    let here = paid_by-here (with_status old status) invoice in
    omega (arith, ints)

-- final attempts stay where a key is new, and where an open attempt is settled
pub StayFinal-new : (payments : PaymentsValue) (key : List ℕ) (attempt : Attempt)
    → attempt_of payments key ≡ None
    → StayFinal payments (with_attempt payments key attempt)
StayFinal-new payments key attempt fresh asked old there is =
    Stay-new (λ (a : Attempt). not (is_open a.status)) payments key attempt fresh asked old there (ap not is)

pub StayFinal-settled : (payments : PaymentsValue) (key : List ℕ) (attempt old : Attempt)
    → attempt_of payments key ≡ Some old → is_open old.status ≡ true
    → StayFinal payments (with_attempt payments key attempt)
StayFinal-settled payments key attempt old is opened asked found there final =
    Stay-other (λ (a : Attempt). not (is_open a.status)) payments key attempt old is (ap not opened) asked
    found there (ap not final)
