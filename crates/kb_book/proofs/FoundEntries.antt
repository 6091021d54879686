-- What holds of each entry of a map holds of each one that is found, and after one is put in.
use Rattle.std.proofs.Common.{◌≡◌, sym, ap, subst, refl, cond, T, List, [], ◌∷◌, Some, is_some}
use Rattle.std.proofs.Common.{unwrap_or, All}
use Rattle.std.proofs.lemmas.List.Elements.{All-cons, All-head, All-tail}
use Rattle.std.specs.declared.cmp.Ordering.{Ordering}
use Rattle.std.specs.declared.cmp.Ordering.TheVariants.{Less, Equal, Greater}
use Rattle.std.specs.FinMap.{find, put, IsAntisymmetric, nat_cmp-IsAntisymmetric, slice_cmp-IsAntisymmetric}
use Rattle.std.specs.FinMap.Entries.{by_order}
use Rattle.std.specs.Ordering.{is_eq}
use Rattle.kb_sharing.specs.Keys.{by_words}

-- keys are the same if neither stands before the other
pub same_keys : IsAntisymmetric by_words
same_keys = slice_cmp-IsAntisymmetric nat_cmp-IsAntisymmetric

module _ {K X : Type 0} {R : K → K → Ordering} where
  -- what holds of each entry, and of a new one, holds of each one after it is put in
  pub All-put : IsAntisymmetric R → (P : K × X → Type 0) (k : K) (v : X) (es : List (K × X)) → All P es
      → P (k, v)
      → All P (put R k v es)
  All-put same P k v [] all new = All-cons P (k, v) [] new all
  All-put same P k v (e ∷ es) all new =
      elim (R k e.0) as
      (λ o. R k e.0 ≡ o → All P (by_order o ((k, v) ∷ e ∷ es) ((e.0, v) ∷ es) (e ∷ put R k v es))) [
        | Less ↦ λ less. All-cons P (k, v) (e ∷ es) new all
        | Equal ↦ λ tied.
            All-cons P (e.0, v) es (subst (λ x. P (x, v)) (same k e.0 tied) new) (All-tail P e es all)
        | Greater ↦ λ more.
            All-cons P e (put R k v es) (All-head P e es all)
            (All-put same P k v es (All-tail P e es all) new)
      ] refl

  -- what holds of each entry holds of one that is found
  pub All-find : IsAntisymmetric R → (P : K × X → Type 0) (k : K) (v : X) (es : List (K × X)) → All P es
      → find R k es ≡ Some v → P (k, v)
  All-find same P k v [] all is = absurd (subst (λ r. T (is_some r)) (sym is) tt)
  All-find same P k v (e ∷ es) all is =
      elim (R k e.0) as (λ o. R k e.0 ≡ o → cond (is_eq o) (Some e.1) (find R k es) ≡ Some v → P (k, v)) [
        | Less ↦ λ less found. All-find same P k v es (All-tail P e es all) found
        | Equal ↦ λ tied found.
            let value : e.1 ≡ v = ap (λ r. unwrap_or r e.1) found in
            subst (λ x. P (k, x)) value
            (subst (λ x. P (x, e.1)) (sym (same k e.0 tied)) (All-head P e es all))
        | Greater ↦ λ more found. All-find same P k v es (All-tail P e es all) found
      ] refl is
