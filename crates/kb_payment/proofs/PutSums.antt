-- What the values of a map add up to after an entry is put in: a new one adds its weight, and one that is
-- there already gives up its old weight.
use Rattle.std.proofs.Common.{◌≡◌, sym, ap, subst, cond, T, List, [], ◌∷◌, ℤ, pos}
use Rattle.std.proofs.Common.{◌+ℤ◌, ◌≤ℤ◌, None, Some, arith, is_some, unwrap_or, option_map}
use Rattle.std.proofs.lemmas.Int.{ints}
use Rattle.std.specs.declared.cmp.Ordering.{Ordering}
use Rattle.std.specs.declared.cmp.Ordering.TheVariants.{Less, Equal, Greater}
use Rattle.std.specs.FinMap.{find, put, is_sorted, IsAntisymmetric}
use Rattle.std.specs.FinMap.Entries.{by_order}
use Rattle.std.specs.Ordering.{is_eq}
use Rattle.std.specs.Cmp.{IsTotalOrder}
use Rattle.kb_sharing.specs.Sums.{sum_of}
use Rattle.kb_sharing.proofs.EntrySums.{sum_of-put}

module _ {K X : Type 0} (R : K → K → Ordering) (w : X → ℤ) where
  abbrev weights : List (K × X) → ℤ
  weights es = sum_of (λ (e : K × X). w e.1) es

  -- a new entry adds its weight
  pub sum-put_new : (k : K) (v : X) (es : List (K × X)) → find R k es ≡ None
      → weights (put R k v es) ≡ weights es +ℤ w v
  sum-put_new k v [] none = omega (arith, ints)
  sum-put_new k v (e ∷ es) none =
      elim (R k e.0) as (λ o. cond (is_eq o) (Some e.1) (find R k es) ≡ None
      → weights (by_order o ((k, v) ∷ e ∷ es) ((e.0, v) ∷ es) (e ∷ put R k v es)) ≡ weights (e ∷ es) +ℤ w v) [
        | Less ↦ λ n. omega (arith, ints)
        | Equal ↦ λ n. absurd (subst (λ o. T (is_some o)) n tt)
        | Greater ↦ λ n. let rest = sum-put_new k v es n in omega (arith, ints)
      ] none

  -- one that is there already gives up its old weight
  pub sum-put_old : IsTotalOrder R → IsAntisymmetric R → (k : K) (v old : X) (es : List (K × X))
      → T (is_sorted R es)
      → find R k es ≡ Some old → weights (put R k v es) +ℤ w old ≡ weights es +ℤ w v
  sum-put_old o same k v old es sorted is =
      let law = sum_of-put o same (λ (e : K × X). w e.1) k v es sorted in
      let gone = ap (λ found. unwrap_or (option_map w found) (pos 0)) is in
      omega (arith, ints)

  -- a value that is there weighs no more than all of them, if none weighs less than 0
  pub weight-found : ((v : X) → pos 0 ≤ℤ w v) → (k : K) (v : X) (es : List (K × X)) → find R k es ≡ Some v
      → w v ≤ℤ weights es
  weight-found low k v [] is = absurd (subst (λ r. T (is_some r)) (sym is) tt)
  weight-found low k v (e ∷ es) is =
      elim (R k e.0) as (λ r. cond (is_eq r) (Some e.1) (find R k es) ≡ Some v → w v ≤ℤ weights (e ∷ es)) [
        | Less ↦ λ found. let later = weight-found low k v es found in let here =
            low e.1 in omega (arith, ints)
        | Equal ↦ λ found.
            let same = ap (λ r. w (unwrap_or r e.1)) found in
            let later = weights-low low es in
            omega (arith, ints)
        | Greater ↦ λ found. let later = weight-found low k v es found in let here =
            low e.1 in omega (arith, ints)
      ] is
    where
      weights-low : ((v : X) → pos 0 ≤ℤ w v) → (es : List (K × X)) → pos 0 ≤ℤ weights es
      weights-low low [] = omega (arith, ints)
      weights-low low (e ∷ es) = let here = low e.1 in let later = weights-low low es in omega (arith, ints)
