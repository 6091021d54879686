-- What entries weigh in all after the value of a key that is there is replaced, and which tests they pass
-- after a value is put in.
use Rattle.std.proofs.Common.{◌≡◌, ◌+◌, ℕ, Bool, true, false, cond, ◌||◌, T, List, [], ◌∷◌, Some}
use Rattle.std.proofs.Common.{is_some, unwrap_or, sum_by, refl, sym, ap, subst, ◌∙◌, arith, true≢false}
use Rattle.std.specs.List.{list_any}
use Rattle.std.specs.declared.cmp.Ordering.{Ordering}
use Rattle.std.specs.declared.cmp.Ordering.TheVariants.{Less, Equal, Greater}
use Rattle.std.specs.Ordering.{is_eq}
use Rattle.std.specs.Cmp.{IsTotalOrder}
use Rattle.std.specs.FinMap.{find, put, is_sorted, IsAntisymmetric}
use Rattle.std.specs.FinMap.Entries.{by_order, below_all}
use Rattle.std.proofs.lemmas.List.Sums.{sum_by-cons}
use Rattle.kb_sharing.proofs.SplitEntries.{find-none, both_first, both_second}

module _ {K V : Type 0} {R : K → K → Ordering} (o : IsTotalOrder R) (same : IsAntisymmetric R) where
  -- the old value is weighed no more, and the new one is
  pub sum_by-replace : (weight : K × V → ℕ) (k : K) (v old : V) (es : List (K × V)) → T (is_sorted R es)
      → find R k es ≡ Some old
      → sum_by weight (put R k v es) + weight (k, old) ≡ sum_by weight es + weight (k, v)
  sum_by-replace weight k v old [] sorted is = absurd (subst (λ r. T (is_some r)) (sym is) tt)
  sum_by-replace weight k v old (e ∷ es) sorted is =
      let all = sum_by-cons weight e es in
      elim (R k e.0) as (λ r. R k e.0 ≡ r → cond (is_eq r) (Some e.1) (find R k es) ≡ Some old
      → sum_by weight (by_order r ((k, v) ∷ e ∷ es) ((e.0, v) ∷ es) (e ∷ put R k v es)) + weight (k, old)
      ≡ sum_by weight (e ∷ es) + weight (k, v)) [
        | Less ↦ λ less found.
            let none = find-none o k e.0 es less (both_first (below_all R e.0 es) (is_sorted R es) sorted) in
            absurd (subst (λ r. T (is_some r)) (sym found ∙ none) tt)
        | Equal ↦ λ tied found.
            let new = ap (λ key. weight (key, v)) (same k e.0 tied) in
            let was = ap (λ key. weight (key, e.1)) (same k e.0 tied) in
            let one = ap (λ r. weight (k, unwrap_or r e.1)) found in
            let more = sum_by-cons weight (e.0, v) es in omega arith
        | Greater ↦ λ past found.
            let later = sum_by-replace weight k v old es
            (both_second (below_all R e.0 es) (is_sorted R es) sorted) found in
            let more = sum_by-cons weight e (put R k v es) in omega arith
      ] refl is

either-right : (a b c : Bool) → (b ≡ true → c ≡ true) → (a || b) ≡ true → (a || c) ≡ true
either-right true b c later is = refl
either-right false b c later is = later is

either-left : (a b c : Bool) → (a ≡ true → c ≡ true) → (a || b) ≡ true → (c || b) ≡ true
either-left true b c here is = rw (here refl) refl
either-left false true true here is = refl
either-left false true false here is = refl
either-left false false c here is = absurd (true≢false (sym is))

beside : (a b : Bool) → b ≡ true → (a || b) ≡ true
beside true b is = refl
beside false b is = is

module _ {K V : Type 0} (R : K → K → Ordering) (p : V → Bool) where
  abbrev passes : K × V → Bool
  passes entry = p entry.1

  -- some entry passes a test still, if the new value does where the old one did
  pub list_any-put : (k : K) (v : V) (es : List (K × V))
      → ((old : V) → find R k es ≡ Some old → p old ≡ true → p v ≡ true) → list_any passes es ≡ true
      → list_any passes (put R k v es) ≡ true
  list_any-put k v [] kept is = absurd (true≢false (sym is))
  list_any-put k v (e ∷ es) kept is =
      elim (R k e.0) as (λ r. ((old : V) → cond (is_eq r) (Some e.1) (find R k es) ≡ Some old → p old ≡ true
      → p v ≡ true)
      → list_any passes (by_order r ((k, v) ∷ e ∷ es) ((e.0, v) ∷ es) (e ∷ put R k v es)) ≡ true) [
        | Less ↦ λ keeps. beside (p v) (list_any passes (e ∷ es)) is
        | Equal ↦ λ keeps. either-left (p e.1) (list_any passes es) (p v) (keeps e.1 refl) is
        | Greater ↦ λ keeps.
            either-right (p e.1) (list_any passes es) (list_any passes (put R k v es))
            (list_any-put k v es keeps) is
      ] kept

  -- and one does if the new value does
  pub list_any-put_new : (k : K) (v : V) (es : List (K × V)) → p v ≡ true
      → list_any passes (put R k v es) ≡ true
  list_any-put_new k v [] is = rw is refl
  list_any-put_new k v (e ∷ es) is =
      elim (R k e.0) as
      (λ r. list_any passes (by_order r ((k, v) ∷ e ∷ es) ((e.0, v) ∷ es) (e ∷ put R k v es)) ≡ true) [
        | Less ↦ rw is refl
        | Equal ↦ rw is refl
        | Greater ↦ beside (p e.1) (list_any passes (put R k v es)) (list_any-put_new k v es is)
      ]
