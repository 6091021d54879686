-- By how much one attempt moves what is paid.
use Rattle.std.proofs.Common.{◌≡◌, ℕ, ◌^◌, ◌≤◌, Bool, true, false, ◌==◌, ◌&&◌, cond, if◌then◌else◌, T, List}
use Rattle.std.proofs.Common.{[], ◌∷◌, Some, None, is_some, unwrap_or, option_map, ℤ, pos, neg_ℤ, nat_abs}
use Rattle.std.proofs.Common.{◌+ℤ◌, refl, ap, sym, subst, ◌∙◌, arith, true≢false, zero, suc}
use Rattle.std.proofs.lemmas.Int.{ints}
use Rattle.std.specs.declared.cmp.Ordering.TheVariants.{Less, Equal, Greater}
use Rattle.std.specs.Cmp.Lexicographic.{nat_list_cmp_total}
use Rattle.std.specs.FinMap.{find, put, is_sorted}
use Rattle.std.specs.FinMap.Entries.{by_order}
use Rattle.std.specs.Ordering.{is_eq}
use Rattle.kb_sharing.specs.Keys.{by_words}
use Rattle.kb_sharing.specs.Sums.{sum_of}
use Rattle.kb_sharing.proofs.EntrySums.{sum_of-put}
use Rattle.kb_payment.specs.declared.attempt.Attempt.{Attempt}
use Rattle.kb_payment.specs.declared.attempt.Kind.{Kind}
use Rattle.kb_payment.specs.declared.attempt.Kind.TheVariants.{Purchase, Refund, Chargeback}
use Rattle.kb_payment.specs.declared.attempt.Status.{Status}
use Rattle.kb_payment.specs.declared.attempt.Status.TheVariants.{Unknown, Pending, Success, PaymentFailure}
use Rattle.kb_payment.specs.declared.attempt.Status.TheVariants.{PluginFailure}
use Rattle.kb_payment.specs.Attempts.{is_open, is_success, signed, paid_by, with_status}
use Rattle.kb_payment.specs.PaymentSums.{PaymentsValue, attempt_of, with_attempt, paid_on, Moves}
use Rattle.kb_book.proofs.FoundEntries.{same_keys}

-- what is paid stays, or moves on one invoice by an amount that fits a sum
abbrev pub MovesOnce : PaymentsValue → PaymentsValue → Type 0
MovesOnce old new = (invoice : ℕ) × (amount : ℤ) × (nat_abs amount ≤ 2 ^ 64) × Moves old new invoice amount

-- a new entry adds its weight
sum-put_new : (weight : Attempt → ℤ) (key : List ℕ) (attempt : Attempt) (payments : PaymentsValue)
    → attempt_of payments key ≡ None
    → sum_of (λ (entry : List ℕ × Attempt). weight entry.1) (with_attempt payments key attempt)
    ≡ sum_of (λ (entry : List ℕ × Attempt). weight entry.1) payments +ℤ weight attempt
sum-put_new weight key attempt [] none = omega (arith, ints)
sum-put_new weight key attempt (entry ∷ later) none =
    let sum : PaymentsValue → ℤ = sum_of (λ (entry : List ℕ × Attempt). weight entry.1) in
    elim (by_words key entry.0) as
    (λ order. cond (is_eq order) (Some entry.1) (find by_words key later) ≡ None
    → sum (by_order order ((key, attempt) ∷ entry ∷ later) ((entry.0, attempt) ∷ later)
    (entry ∷ put by_words key attempt later))
    ≡ sum (entry ∷ later) +ℤ weight attempt) [
      | Less ↦ λ fresh. omega (arith, ints)
      | Equal ↦ λ fresh. absurd (subst (λ found. T (is_some found)) fresh tt)
      | Greater ↦ λ fresh. let rest = sum-put_new weight key attempt later fresh in omega (arith, ints)
    ] none

-- what an attempt pays on its invoice
abbrev pub pays : Attempt → ℤ
pays attempt = if is_success attempt.status then signed attempt.kind attempt.amount else pos 0

-- and on each
paid_by-here : (asked : ℕ) (attempt : Attempt)
    → paid_by asked attempt ≡ (if attempt.invoice == asked then pays attempt else pos 0)
paid_by-here asked attempt = by_tests (attempt.invoice == asked) (is_success attempt.status)
  where
    by_tests : (same success : Bool)
        → (if same && success then signed attempt.kind attempt.amount else pos 0)
        ≡ (if same then (if success then signed attempt.kind attempt.amount else pos 0) else pos 0)
    by_tests true success = refl
    by_tests false success = refl

-- its size is that of its amount at most
pub nat_abs-pos : (amount : ℕ) → nat_abs (neg_ℤ (pos amount)) ≡ amount
nat_abs-pos zero = refl
nat_abs-pos (suc amount) = refl

nat_abs-signed : (kind : Kind) (amount : ℕ) → nat_abs (signed kind amount) ≡ amount
nat_abs-signed Purchase amount = refl
nat_abs-signed Refund amount = nat_abs-pos amount
nat_abs-signed Chargeback amount = nat_abs-pos amount

pub nat_abs-pays : (attempt : Attempt) → nat_abs (pays attempt) ≤ attempt.amount
nat_abs-pays attempt = by_test (is_success attempt.status)
  where
    by_test : (success : Bool)
        → nat_abs (if success then signed attempt.kind attempt.amount else pos 0) ≤ attempt.amount
    by_test true = omega (arith, nat_abs-signed attempt.kind attempt.amount)
    by_test false = omega arith

-- a new attempt moves what is paid by what it pays
pub put-moves : (payments : PaymentsValue) (key : List ℕ) (attempt : Attempt) → attempt_of payments key ≡ None
    → Moves payments (with_attempt payments key attempt) attempt.invoice (pays attempt)
put-moves payments key attempt fresh asked =
    sum-put_new (paid_by asked) key attempt payments fresh
    ∙ ap (λ more. paid_on payments asked +ℤ more) (paid_by-here asked attempt)

-- so does one that takes the place of an open one on its invoice
pub settle-moves : (payments : PaymentsValue) (key : List ℕ) (old : Attempt) (status : Status)
    → T (is_sorted by_words payments) → attempt_of payments key ≡ Some old → is_open old.status ≡ true
    → Moves payments (with_attempt payments key (with_status old status)) old.invoice
    (pays (with_status old status))
settle-moves payments key old status sorted there opened asked =
    let sums = sum_of-put nat_list_cmp_total same_keys (λ (entry : List ℕ × Attempt). paid_by asked entry.1)
    key
    (with_status old status) payments sorted in
    let gone = ap (λ found. unwrap_or (option_map (paid_by asked) found) (pos 0)) there in
    let before : paid_by asked old ≡ pos 0 = paid_by-here asked old
    ∙ none (old.invoice == asked) (unpaid old.status opened) in
    let here = paid_by-here asked (with_status old status) in
    omega (arith, ints, sums, gone, before, here)
  where
    unpaid : (status : Status) → is_open status ≡ true → is_success status ≡ false
    unpaid Unknown is = refl
    unpaid Pending is = refl
    unpaid Success is = absurd (true≢false (sym is))
    unpaid PaymentFailure is = refl
    unpaid PluginFailure is = refl

    none : (same : Bool) → is_success old.status ≡ false → (if same then pays old else pos 0) ≡ pos 0
    none true is = rw is refl
    none false is = refl
