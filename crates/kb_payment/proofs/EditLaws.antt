-- What an edit moves, and what stays, in the words of the edits.
use Rattle.std.proofs.Common.{◌≡◌, ℕ, ◌+◌, ◌≤◌, sym, ap, subst, ◌∙◌, true, false, T, List, Option, None, Some}
use Rattle.std.proofs.Common.{ℤ, pos, neg_ℤ, ◌&&◌, arith, IfSome, if◌then◌else◌}
use Rattle.std.proofs.lemmas.Int.{ints}
use Rattle.kb_payment.specs.declared.attempt.Attempt.{Attempt}
use Rattle.kb_payment.specs.declared.attempt.Kind.{Kind}
use Rattle.kb_payment.specs.declared.attempt.Kind.TheVariants.{Purchase, Refund, Chargeback}
use Rattle.kb_payment.specs.declared.attempt.Status.{Status}
use Rattle.kb_payment.specs.declared.attempt.Status.TheVariants.{Success}
use Rattle.kb_payment.specs.Attempts.{is_open, is_success, is_purchase, signed, with_status}
use Rattle.kb_payment.specs.PaymentSums.{PaymentsValue, attempt_of, with_attempt, taken_of, open_purchases}
use Rattle.kb_payment.specs.PaymentSums.{paid_on}
use Rattle.kb_payment.specs.PaymentSums.{StayFinal, Moves}
use Rattle.kb_payment.specs.PaymentEdits.{max_purchase, purchase_fault, give_back_of}
use Rattle.kb_payment.specs.SoundPayments.{IsSoundAs, ArePayments}
use Rattle.kb_payment.specs.Private.GivenBack.{IsCovered}
use Rattle.kb_payment.proofs.Purchases.{IsAllowed-purchase}
use Rattle.kb_payment.proofs.Settlements.{sound_found}
use Rattle.kb_payment.proofs.PaidMoves.{Moves-new, Moves-settled, Stays-new, StayFinal-new, StayFinal-settled}

-- a purchase that isn't refused finds no other one open
pub purchase_idle : (payments : PaymentsValue) (key : List ℕ) (invoice : ℕ) (balance : ℤ) (amount : Option ℕ)
    → purchase_fault payments key invoice balance amount ≡ None → open_purchases payments invoice ≡ pos 0
purchase_idle payments key invoice balance amount none =
    (IsAllowed-purchase payments key invoice balance amount none).idle

-- an attempt of a new key that isn't a success moves nothing, and all final attempts stay
pub begun_unmoved : (old new : PaymentsValue) (key : List ℕ) (attempt : Attempt)
    → new ≡ with_attempt old key attempt
    → attempt_of old key ≡ None → is_success attempt.status ≡ false → (asked : ℕ)
    → paid_on new asked ≡ paid_on old asked
begun_unmoved old new key attempt is fresh fails asked =
    ap (λ p. paid_on p asked) is ∙ Stays-new old key attempt fresh fails asked

pub begun_lasting : (old new : PaymentsValue) (key : List ℕ) (attempt : Attempt)
    → new ≡ with_attempt old key attempt
    → attempt_of old key ≡ None → StayFinal old new
begun_lasting old new key attempt is fresh =
    subst (StayFinal old) (sym is) (StayFinal-new old key attempt fresh)

-- a chargeback moves what is paid down by its amount
pub chargeback_moved : (old new : PaymentsValue) (key of : List ℕ) (purchase : Attempt) (amount day : ℕ)
    → new ≡ with_attempt old key (give_back_of Chargeback Success of purchase amount day)
    → IsCovered old key of purchase amount
    → IfSome (attempt_of old of) (λ found. Moves old new found.invoice (neg_ℤ (pos amount)))
chargeback_moved old new key of purchase amount day is covered =
    subst (λ (o : Option Attempt). IfSome o (λ found. Moves old new found.invoice (neg_ℤ (pos amount))))
    (sym covered.there)
    (subst (λ p. Moves old p purchase.invoice (neg_ℤ (pos amount))) (sym is)
    (Moves-new old key (give_back_of Chargeback Success of purchase amount day) covered.fresh))

-- what is given back of a purchase in all is no more than one purchase may be
bounded_as : (kind : Kind) (payments : PaymentsValue) (purchase : Attempt) → IsSoundAs kind payments purchase
    → (is_purchase kind && is_success purchase.status) ≡ true → purchase.amount ≤ max_purchase
bounded_as Purchase payments purchase sound paid = sound.1
bounded_as Refund payments purchase sound paid = absurd (subst T (sym paid) tt)
bounded_as Chargeback payments purchase sound paid = absurd (subst T (sym paid) tt)

pub covered_bounded : (payments : PaymentsValue) (key of : List ℕ) (purchase : Attempt) (amount before : ℕ)
    → ArePayments payments → IsCovered payments key of purchase amount → pos before ≡ taken_of payments of
    → before + amount ≤ max_purchase
covered_bounded payments key of purchase amount before are covered was =
    let most = bounded_as purchase.kind payments purchase
    (sound_found payments of purchase are covered.there) covered.paid in
    let within = covered.within in
    omega (arith, ints)

-- a settlement moves what is paid by what it says, and all final attempts stay
pub settlement_moved : (old new : PaymentsValue) (key : List ℕ) (attempt : Attempt) (status : Status)
    (amount : ℤ)
    → new ≡ with_attempt old key (with_status attempt status) → ArePayments old
    → attempt_of old key ≡ Some attempt → is_open attempt.status ≡ true
    → amount ≡ (if is_success status then signed attempt.kind attempt.amount else pos 0)
    → IfSome (attempt_of old key) (λ found. Moves old new found.invoice amount)
settlement_moved old new key attempt status amount is are there opened worth =
    subst (λ (o : Option Attempt). IfSome o (λ found. Moves old new found.invoice amount)) (sym there)
    (subst (λ n. Moves old new attempt.invoice n) (sym worth)
    (subst (λ p. Moves old p attempt.invoice
    (if is_success status then signed attempt.kind attempt.amount else pos 0)) (sym is)
    (Moves-settled old key attempt status are there opened)))

pub settlement_lasting : (old new : PaymentsValue) (key : List ℕ) (attempt : Attempt) (status : Status)
    → new ≡ with_attempt old key (with_status attempt status)
    → attempt_of old key ≡ Some attempt → is_open attempt.status ≡ true → StayFinal old new
settlement_lasting old new key attempt status is there opened =
    subst (StayFinal old) (sym is)
    (StayFinal-settled old key (with_status attempt status) attempt there opened)
