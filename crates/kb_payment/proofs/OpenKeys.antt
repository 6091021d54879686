-- The open keys, told from entries that are lent.
use Rattle.std.proofs.Common.{◌≡◌, refl, Bool, true, false, cond, ℕ, List, [], ◌∷◌, ◌++◌, map, All, AllPairs}
use Rattle.std.proofs.Common.{T, sym}
use Rattle.std.proofs.Common.{subst, ◌∙◌, ap, inl, inr}
use Rattle.std.proofs.lemmas.Bool.{cases_Bool}
use Rattle.std.proofs.lemmas.List.{append_assoc}
use Rattle.std.proofs.lemmas.List.Elements.{All-nil, All-cons}
use Rattle.std.proofs.lemmas.List.Kept.{AllPairs-filter}
use Rattle.std.specs.List.{filter}
use Rattle.std.specs.FinMap.Entries.{is_sorted}
use Rattle.std.specs.Cmp.{tied_itself}
use Rattle.std.specs.Cmp.Lexicographic.{nat_list_cmp_total}
use Rattle.kb_sharing.specs.Keys.{by_words}
use Rattle.kb_sharing.proofs.ApartKeys.{entries_apart, keys_apart}
use Rattle.kb_sharing.proofs.SplitEntries.{find-middle}
use Rattle.kb_payment.specs.declared.attempt.Attempt.{Attempt}
use Rattle.kb_payment.specs.Attempts.{is_open}
use Rattle.kb_payment.specs.PaymentSums.{PaymentsValue, attempt_of, open_keys, IsOpenKey}

pub map-filter-map : {A B C : Type 0} (f : A → B) (g : B → C) (p : B → Bool) (xs : List A)
    → map g (filter p (map f xs)) ≡ map (λ x. g (f x)) (filter (λ x. p (f x)) xs)
map-filter-map f g p [] = refl
map-filter-map f g p (x ∷ xs) =
    elim (p (f x)) as (λ b. map g (cond b (f x ∷ filter p (map f xs)) (filter p (map f xs)))
    ≡ map (λ y. g (f y)) (cond b (x ∷ filter (λ y. p (f y)) xs) (filter (λ y. p (f y)) xs))) [
      | true ↦ λ i. g (f x) ∷ map-filter-map f g p xs i
      | false ↦ map-filter-map f g p xs
    ]

-- no key is among the open ones twice
pub open_keys_apart : (payments : PaymentsValue) → T (is_sorted by_words payments)
    → AllPairs (λ (one other : List ℕ). one ≡ other → ⊥) (open_keys payments)
open_keys_apart payments sorted =
    keys_apart (filter (λ (entry : List ℕ × Attempt). is_open entry.1.status) payments)
    (AllPairs-filter (λ (one other : List ℕ × Attempt). one.0 ≡ other.0 → ⊥)
    (λ (entry : List ℕ × Attempt). is_open entry.1.status) payments (entries_apart payments sorted))

-- each has an attempt that is open
pub open_keys_found : (payments : PaymentsValue) → T (is_sorted by_words payments)
    → All (IsOpenKey payments) (open_keys payments)
open_keys_found payments sorted = among [] payments refl
  where
    test : List ℕ × Attempt → Bool
    test entry = is_open entry.1.status

    here : (front : List (List ℕ × Attempt)) (entry : List ℕ × Attempt) (back : List (List ℕ × Attempt))
        → payments ≡ front ++ entry ∷ back → test entry ≡ true → IsOpenKey payments entry.0
    here front entry back is opened = (
      entry.1,
      ap (λ all. attempt_of all entry.0) is
          ∙ find-middle nat_list_cmp_total entry.0 front entry back (tied_itself nat_list_cmp_total entry.0)
          (subst (λ all. T (is_sorted by_words all)) is sorted),
      opened,
    )

    among : (front back : List (List ℕ × Attempt)) → payments ≡ front ++ back
        → All (IsOpenKey payments) (map (λ entry. entry.0) (filter test back))
    among front [] is = All-nil (IsOpenKey payments)
    among front (entry ∷ back) is =
        let later = among (front ++ entry ∷ []) back (is ∙ sym (append_assoc front (entry ∷ []) back)) in
        elim (cases_Bool (test entry)) [
          | inl opened ↦ rw opened (All-cons (IsOpenKey payments) entry.0
              (map (λ each. each.0) (filter test back))
              (here front entry back is opened) later)
          | inr closed ↦ rw closed later
        ]
