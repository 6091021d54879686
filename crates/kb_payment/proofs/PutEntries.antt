-- What holds of the entries of a map after one is put in.
use Rattle.std.proofs.Common.{◌≡◌, sym, ap, subst, ◌∙◌, refl, Bool, true, false, cond, ◌||◌, T, List, [], ◌∷◌}
use Rattle.std.proofs.Common.{None, Some, is_some, unwrap_or, All}
use Rattle.std.specs.List.{list_any}
use Rattle.std.proofs.lemmas.List.Elements.{All-cons, All-head, All-tail}
use Rattle.std.specs.declared.cmp.Ordering.{Ordering}
use Rattle.std.specs.declared.cmp.Ordering.TheVariants.{Less, Equal, Greater}
use Rattle.std.specs.FinMap.{find, put, is_sorted, IsAntisymmetric, nat_cmp-IsAntisymmetric}
use Rattle.std.specs.FinMap.{slice_cmp-IsAntisymmetric}
use Rattle.std.specs.FinMap.Entries.{by_order, below_all}
use Rattle.std.specs.Ordering.{is_eq}
use Rattle.std.specs.Cmp.{IsTotalOrder}
use Rattle.kb_sharing.specs.Keys.{by_words}
use Rattle.kb_sharing.proofs.SplitEntries.{both_first, both_second, find-none}

-- keys are the same if neither stands before the other
pub same_keys : IsAntisymmetric by_words
same_keys = slice_cmp-IsAntisymmetric nat_cmp-IsAntisymmetric

module _ {K X : Type 0} {R : K → K → Ordering} where
  -- what holds of each entry, and of a new one, holds of each one after it is put in
  pub All-put : IsAntisymmetric R → (P : K × X → Type 0) (k : K) (v : X) (es : List (K × X)) → All P es
      → P (k, v)
      → All P (put R k v es)
  All-put same P k v [] all new = All-cons P (k, v) [] new all
  All-put same P k v (e ∷ es) all new =
      elim (R k e.0) as
      (λ o. R k e.0 ≡ o → All P (by_order o ((k, v) ∷ e ∷ es) ((e.0, v) ∷ es) (e ∷ put R k v es))) [
        | Less ↦ λ less. All-cons P (k, v) (e ∷ es) new all
        | Equal ↦ λ tied.
            All-cons P (e.0, v) es (subst (λ x. P (x, v)) (same k e.0 tied) new) (All-tail P e es all)
        | Greater ↦ λ more.
            All-cons P e (put R k v es) (All-head P e es all)
            (All-put same P k v es (All-tail P e es all) new)
      ] refl

  -- what holds of each entry holds of one that is found
  pub All-find : IsAntisymmetric R → (P : K × X → Type 0) (k : K) (v : X) (es : List (K × X)) → All P es
      → find R k es ≡ Some v → P (k, v)
  All-find same P k v [] all is = absurd (subst (λ r. T (is_some r)) (sym is) tt)
  All-find same P k v (e ∷ es) all is =
      elim (R k e.0) as (λ o. R k e.0 ≡ o → cond (is_eq o) (Some e.1) (find R k es) ≡ Some v → P (k, v)) [
        | Less ↦ λ less found. All-find same P k v es (All-tail P e es all) found
        | Equal ↦ λ tied found.
            let value : e.1 ≡ v = ap (λ r. unwrap_or r e.1) found in
            subst (λ x. P (k, x)) value
            (subst (λ x. P (x, e.1)) (sym (same k e.0 tied)) (All-head P e es all))
        | Greater ↦ λ more found. All-find same P k v es (All-tail P e es all) found
      ] refl is

module _ {K X : Type 0} (R : K → K → Ordering) where
  -- one of the entries passes a test of values, or the new one does
  pub list_any-put_new : (p : X → Bool) (k : K) (v : X) (es : List (K × X)) → find R k es ≡ None
      → list_any (λ (e : K × X). p e.1) (put R k v es) ≡ (p v || list_any (λ (e : K × X). p e.1) es)
  list_any-put_new p k v [] none = refl
  list_any-put_new p k v (e ∷ es) none =
      elim (R k e.0) as (λ o. cond (is_eq o) (Some e.1) (find R k es) ≡ None
      → list_any (λ (e : K × X). p e.1) (by_order o ((k, v) ∷ e ∷ es) ((e.0, v) ∷ es) (e ∷ put R k v es))
      ≡ (p v || list_any (λ (e : K × X). p e.1) (e ∷ es))) [
        | Less ↦ λ n. refl
        | Equal ↦ λ n. absurd (subst (λ o. T (is_some o)) n tt)
        | Greater ↦ λ n. ap (p e.1 ||◌) (list_any-put_new p k v es n)
            ∙ swapped (p e.1) (p v) (list_any (λ (e : K × X). p e.1) es)
      ] none
    where
      swapped : (a b c : Bool) → (a || (b || c)) ≡ (b || (a || c))
      swapped true true c = refl
      swapped true false c = refl
      swapped false true c = refl
      swapped false false c = refl

  -- a value that passes as the one in its place did changes nothing
  pub list_any-put_old : (p : X → Bool) → IsTotalOrder R → (k : K) (v old : X) (es : List (K × X))
      → T (is_sorted R es)
      → find R k es ≡ Some old → p v ≡ p old
      → list_any (λ (e : K × X). p e.1) (put R k v es) ≡ list_any (λ (e : K × X). p e.1) es
  list_any-put_old p o k v old [] sorted is alike = absurd (subst (λ r. T (is_some r)) (sym is) tt)
  list_any-put_old p o k v old (e ∷ es) sorted is alike =
      elim (R k e.0) as (λ r. R k e.0 ≡ r → cond (is_eq r) (Some e.1) (find R k es) ≡ Some old
      → list_any (λ (e : K × X). p e.1) (by_order r ((k, v) ∷ e ∷ es) ((e.0, v) ∷ es) (e ∷ put R k v es))
      ≡ list_any (λ (e : K × X). p e.1) (e ∷ es)) [
        | Less ↦ λ less found.
            let none = find-none o k e.0 es less (both_first (below_all R e.0 es) (is_sorted R es) sorted) in
            absurd (subst (λ r. T (is_some r)) (sym found ∙ none) tt)
        | Equal ↦ λ tied found.
            let same : p v ≡ p e.1 = alike ∙ ap (λ r. p (unwrap_or r e.1)) (sym found) in
            ap (λ b. b || list_any (λ (e : K × X). p e.1) es) same
        | Greater ↦ λ more found.
            ap (p e.1 ||◌)
            (list_any-put_old p o k v old es (both_second (below_all R e.0 es) (is_sorted R es) sorted)
            found alike)
      ] refl is
