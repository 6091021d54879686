-- What the entries of a map weigh in all, after a value is put at a key: the key's old entry, if there is
-- one, is weighed no more, and the new one is.
use Rattle.std.proofs.Common.{◌+◌, ℤ, pos, ◌+ℤ◌, ◌≡◌, cond, List, [], ◌∷◌, Some, refl}
use Rattle.std.proofs.Common.{ap, T, arith, unwrap_or, option_map}
use Rattle.std.proofs.lemmas.Int.{ints}
use Rattle.std.specs.declared.cmp.Ordering.{Ordering}
use Rattle.std.specs.declared.cmp.Ordering.TheVariants.{Less, Equal, Greater}
use Rattle.std.specs.Ordering.{is_eq}
use Rattle.std.specs.Cmp.{IsTotalOrder}
use Rattle.std.specs.FinMap as map
use Rattle.std.specs.FinMap.Entries.{find, put, is_sorted, below_all, by_order}
use Rattle.kb_sharing.specs.Sums.{sum_of}
use Rattle.kb_sharing.proofs.SplitEntries.{find-none, both_first, both_second}

module _ {K V : Type 0} {R : K → K → Ordering} (o : IsTotalOrder R) (same : map.IsAntisymmetric R) where
  -- by an integer weight, among entries in order
  pub sum_of-put : (weight : K × V → ℤ) (k : K) (v : V) (es : List (K × V)) → T (is_sorted R es)
      → sum_of weight (put R k v es) +ℤ unwrap_or (option_map (λ old. weight (k, old)) (find R k es)) (pos 0)
      ≡ sum_of weight es +ℤ weight (k, v)
  sum_of-put weight k v [] sorted = omega (arith, ints)
  sum_of-put weight k v (e ∷ es) sorted =
      elim (R k e.0) as (λ r. R k e.0 ≡ r
      → sum_of weight (by_order r ((k, v) ∷ e ∷ es) ((e.0, v) ∷ es) (e ∷ put R k v es))
      +ℤ unwrap_or (option_map (λ old. weight (k, old)) (cond (is_eq r) (Some e.1) (find R k es))) (pos 0)
      ≡ sum_of weight (e ∷ es) +ℤ weight (k, v)) [
        | Less ↦ λ p. let none = ap (λ found. unwrap_or (option_map (λ old. weight (k, old)) found) (pos 0))
            (find-none o k e.0 es p (both_first _ _ sorted)) in omega (arith, ints)
        | Equal ↦ λ p. let new = ap (λ key. weight (key, v)) (same k e.0 p) in
            let old = ap (λ key. weight (key, e.1)) (same k e.0 p) in omega (arith, ints)
        | Greater ↦ λ p. let later = sum_of-put weight k v es (both_second (below_all R e.0 es) _ sorted) in
            omega (arith, ints)
      ] refl
