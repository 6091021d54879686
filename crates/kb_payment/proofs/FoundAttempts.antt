-- Which attempt is found after one is put in, and what stays.
use Rattle.std.proofs.Common.{◌≡◌, ℕ, sym, ap, subst, ◌∙◌, refl, Bool, true, false, cond, T, List, Option}
use Rattle.std.proofs.Common.{None, Some}
use Rattle.std.proofs.Common.{bytes_eq, is_some}
use Rattle.std.specs.Cmp.Lexicographic.{nat_list_cmp_total}
use Rattle.std.specs.FinMap.Entries.{find-put}
use Rattle.std.proofs.lemmas.Map.Text.{is_eq-slice_cmp}
use Rattle.std.proofs.lemmas.Slice.Eq.{bytes_eq-Decides}
use Rattle.kb_payment.specs.declared.attempt.Attempt.{Attempt}
use Rattle.kb_sharing.specs.Keys.{by_words}
use Rattle.kb_payment.specs.PaymentSums.{PaymentsValue, attempt_of, with_attempt}

-- a key finds what was put in at it, and any other key what it found before
pub attempt_of-with : (payments : PaymentsValue) (key : List ℕ) (attempt : Attempt) (asked : List ℕ)
    → attempt_of (with_attempt payments key attempt) asked
    ≡ cond (bytes_eq asked key) (Some attempt) (attempt_of payments asked)
attempt_of-with payments key attempt asked =
    find-put by_words nat_list_cmp_total asked key attempt payments
    ∙ ap (λ b. cond b (Some attempt) (attempt_of payments asked)) (is_eq-slice_cmp asked key)

-- a key that finds something else than another one differs from it
pub apart : (payments : PaymentsValue) (asked key : List ℕ) (attempt : Attempt)
    → attempt_of payments asked ≡ Some attempt → attempt_of payments key ≡ None → bytes_eq asked key ≡ false
apart payments asked key attempt there fresh = by_test (bytes_eq asked key) refl
  where
    by_test : (same : Bool) → bytes_eq asked key ≡ same → bytes_eq asked key ≡ false
    by_test true is =
        let one = (bytes_eq-Decides asked key).0 is in
        absurd (subst (λ o. T (is_some o)) (sym there ∙ ap (attempt_of payments) one ∙ fresh) tt)
    by_test false is = is

-- the attempts that pass a test stay as they are
abbrev pub Stay : (Attempt → Bool) → PaymentsValue → PaymentsValue → Type 0
Stay test old new = (key : List ℕ) (attempt : Attempt) → attempt_of old key ≡ Some attempt
    → test attempt ≡ true
    → attempt_of new key ≡ Some attempt

-- they do where a key is new
pub Stay-new : (test : Attempt → Bool) (payments : PaymentsValue) (key : List ℕ) (attempt : Attempt)
    → attempt_of payments key ≡ None → Stay test payments (with_attempt payments key attempt)
Stay-new test payments key attempt fresh asked old there passes =
    attempt_of-with payments key attempt asked
    ∙ ap (λ b. cond b (Some attempt) (attempt_of payments asked)) (apart payments asked key old there fresh)
    ∙ there

-- and where the attempt of the key doesn't pass
pub Stay-other : (test : Attempt → Bool) (payments : PaymentsValue) (key : List ℕ) (attempt old : Attempt)
    → attempt_of payments key ≡ Some old → test old ≡ false
    → Stay test payments (with_attempt payments key attempt)
Stay-other test payments key attempt old is fails asked found there passes =
    attempt_of-with payments key attempt asked ∙ by_test (bytes_eq asked key) refl
  where
    passes_of : Attempt → Option Attempt → Bool
    passes_of other None = test other
    passes_of other (Some one) = test one

    by_test : (same : Bool) → bytes_eq asked key ≡ same
        → cond same (Some attempt) (attempt_of payments asked) ≡ Some found
    by_test true tied =
        let one = (bytes_eq-Decides asked key).0 tied in
        let same : Some found ≡ Some old = sym there ∙ ap (attempt_of payments) one ∙ is in
        absurd (subst T (sym passes ∙ ap (passes_of found) same ∙ fails) tt)
    by_test false tied = there
