-- Entries in order, split at one of them: on which side of it a key is found, comes in, or has its next one.
use Rattle.std.proofs.Common.{ℕ, ◌≡◌, Bool, true, false, cond, ◌&&◌, List, [], ◌∷◌, ◌++◌, Some, None, refl}
use Rattle.std.proofs.Common.{sym, ap, subst, ◌∙◌, T, if◌then◌else◌}
use Rattle.std.specs.declared.cmp.Ordering.{Ordering}
use Rattle.std.specs.declared.cmp.Ordering.TheVariants.{Less, Equal, Greater}
use Rattle.std.specs.Ordering.{is_lt, is_eq, eq_by_cmp}
use Rattle.std.specs.Cmp.{IsTotalOrder}
use Rattle.std.specs.FinMap.Entries.{find, put, is_sorted, below_all, by_order}
use Rattle.std.specs.Cmp.Lexicographic.{nat_list_cmp_total}
use Rattle.kb_sharing.specs.Keys.{by_words, first_behind}
use Rattle.kb_sharing.specs.Private.Nodes.{or_this}

pub both_first : (a b : Bool) → T (a && b) → T a
both_first true b h = tt
both_first false b h = absurd h

pub both_second : (a b : Bool) → T (a && b) → T b
both_second true b h = h
both_second false b h = absurd h

pub is_less : (r : Ordering) → T (is_lt r) → r ≡ Less
is_less Less h = refl
is_less Equal h = absurd h
is_less Greater h = absurd h

module _ {K X : Type 0} (R : K → K → Ordering) where
  -- of entries in order, a key in front stands before one behind it
  before_middle : (x : K) (front : List (K × X)) (middle : K × X) (back : List (K × X))
      → T (below_all R x (front ++ middle ∷ back)) → R x middle.0 ≡ Less
  before_middle x [] middle back below = is_less _ (both_first _ _ below)
  before_middle x (e ∷ front) middle back below = before_middle x front middle back (both_second _ _ below)

  -- what stands in front is in order, and so is what stands behind
  pub sorted_front : (front : List (K × X)) (middle : K × X) (back : List (K × X))
      → T (is_sorted R (front ++ middle ∷ back)) → T (is_sorted R front)
  sorted_front [] middle back sorted = tt
  sorted_front (e ∷ front) middle back sorted = both _ _
      (below_front e.0 front middle back (both_first _ _ sorted))
      (sorted_front front middle back (both_second _ _ sorted))
    where
      both : (a b : Bool) → T a → T b → T (a && b)
      both true b p q = q
      both false b p q = p

      below_front : (x : K) (front : List (K × X)) (middle : K × X) (back : List (K × X))
          → T (below_all R x (front ++ middle ∷ back)) → T (below_all R x front)
      below_front x [] middle back below = tt
      below_front x (e ∷ front) middle back below =
          both _ _ (both_first _ _ below) (below_front x front middle back (both_second _ _ below))

  pub sorted_back : (front : List (K × X)) (middle : K × X) (back : List (K × X))
      → T (is_sorted R (front ++ middle ∷ back)) → T (is_sorted R back)
  sorted_back [] middle back sorted = both_second _ _ sorted
  sorted_back (e ∷ front) middle back sorted = sorted_back front middle back (both_second _ _ sorted)

  -- a new entry that stands before the middle comes in in front of it
  pub put-front : (k : K) (v : X) (front : List (K × X)) (middle : K × X) (back : List (K × X))
      → R k middle.0 ≡ Less → put R k v (front ++ middle ∷ back) ≡ put R k v front ++ middle ∷ back
  put-front k v [] middle back less = ap (λ r. by_order r ((k, v) ∷ middle ∷ back) ((middle.0, v) ∷ back)
      (middle ∷ put R k v back)) less
  put-front k v (e ∷ front) middle back less =
      elim (R k e.0) as (λ r. by_order r ((k, v) ∷ e ∷ (front ++ middle ∷ back))
      ((e.0, v) ∷ (front ++ middle ∷ back))
      (e ∷ put R k v (front ++ middle ∷ back))
      ≡ by_order r ((k, v) ∷ e ∷ front) ((e.0, v) ∷ front) (e ∷ put R k v front) ++ middle ∷ back) [
        | Less ↦ refl
        | Equal ↦ refl
        | Greater ↦ ap (λ rest. e ∷ rest) (put-front k v front middle back less)
      ]

-- a key at or behind another one stands behind each key that stands before that one
behind_front : {K : Type 0} {R : K → K → Ordering} → IsTotalOrder R → (x k m : K)
    → R x m ≡ Less → (R k m ≡ Less → ⊥) → R k x ≡ Greater
behind_front {R = R} o x k m less behind = elim (R k x) as (λ r. R k x ≡ r → R k x ≡ Greater) [
  | Less ↦ λ e. absurd (behind (o.trans k x m e less))
  | Equal ↦ λ e. absurd (behind (o.congr k x m e ∙ less))
  | Greater ↦ λ e. e
] refl

module _ {K X : Type 0} {R : K → K → Ordering} (o : IsTotalOrder R) where
  -- a key that stands before the first one isn't found
  pub find-none : (q first : K) (es : List (K × X)) → R q first ≡ Less → T (below_all R first es)
      → find R q es ≡ None
  find-none q first [] less below = refl
  find-none q first (e ∷ es) less below = ap (λ r. cond (is_eq r) (Some e.1) (find R q es))
      (o.trans q first e.0 less (is_less _ (both_first _ _ below))) ∙ find-none q first es less
      (both_second _ _ below)

  -- a key that stands before the middle is looked for in front of it
  pub find-front : (q : K) (front : List (K × X)) (middle : K × X) (back : List (K × X)) → R q middle.0 ≡ Less
      → T (is_sorted R (front ++ middle ∷ back)) → find R q (front ++ middle ∷ back) ≡ find R q front
  find-front q [] middle back less sorted = ap (λ r. cond (is_eq r) (Some middle.1) (find R q back)) less
      ∙ find-none q middle.0 back less (both_first _ _ sorted)
  find-front q (e ∷ front) middle back less sorted =
      ap (cond (eq_by_cmp R q e.0) (Some e.1)) (find-front q front middle back less (both_second _ _ sorted))

  -- the key of the middle is found there
  pub find-middle : (q : K) (front : List (K × X)) (middle : K × X) (back : List (K × X)) → R q middle.0
      ≡ Equal
      → T (is_sorted R (front ++ middle ∷ back)) → find R q (front ++ middle ∷ back) ≡ Some middle.1
  find-middle q [] middle back equal sorted = ap (λ r. cond (is_eq r) (Some middle.1) (find R q back)) equal
  find-middle q (e ∷ front) middle back equal sorted =
      ap (λ r. cond (is_eq r) (Some e.1) (find R q (front ++ middle ∷ back)))
      (behind_front o e.0 q middle.0 (before_middle R e.0 front middle back (both_first _ _ sorted))
      (λ less. subst (λ r. T (is_lt r)) (sym less ∙ equal) tt))
      ∙ find-middle q front middle back equal (both_second _ _ sorted)

  -- a key that stands behind the middle is looked for behind it
  pub find-back : (q : K) (front : List (K × X)) (middle : K × X) (back : List (K × X)) → R q middle.0
      ≡ Greater
      → T (is_sorted R (front ++ middle ∷ back)) → find R q (front ++ middle ∷ back) ≡ find R q back
  find-back q [] middle back greater sorted = ap (λ r. cond (is_eq r) (Some middle.1) (find R q back)) greater
  find-back q (e ∷ front) middle back greater sorted =
      ap (λ r. cond (is_eq r) (Some e.1) (find R q (front ++ middle ∷ back)))
      (behind_front o e.0 q middle.0 (before_middle R e.0 front middle back (both_first _ _ sorted))
      (λ less. subst (λ r. T (is_lt r)) (sym less ∙ greater) tt))
      ∙ find-back q front middle back greater (both_second _ _ sorted)

  -- a new value at the key of the middle comes in there
  pub put-middle : (k : K) (v : X) (front : List (K × X)) (middle : K × X) (back : List (K × X))
      → R k middle.0 ≡ Equal
      → T (is_sorted R (front ++ middle ∷ back)) → put R k v (front ++ middle ∷ back) ≡ front ++
      (middle.0, v) ∷ back
  put-middle k v [] middle back equal sorted = ap
      (λ r. by_order r ((k, v) ∷ middle ∷ back) ((middle.0, v) ∷ back)
      (middle ∷ put R k v back)) equal
  put-middle k v (e ∷ front) middle back equal sorted =
      ap (λ r. by_order r ((k, v) ∷ e ∷ (front ++ middle ∷ back)) ((e.0, v) ∷ (front ++ middle ∷ back))
      (e ∷ put R k v (front ++ middle ∷ back)))
      (behind_front o e.0 k middle.0 (before_middle R e.0 front middle back (both_first _ _ sorted))
      (λ less. subst (λ r. T (is_lt r)) (sym less ∙ equal) tt))
      ∙ ap (λ rest. e ∷ rest) (put-middle k v front middle back equal (both_second _ _ sorted))

  -- a new entry that stands behind the middle comes in behind it
  pub put-back : (k : K) (v : X) (front : List (K × X)) (middle : K × X) (back : List (K × X)) → R k middle.0
      ≡ Greater
      → T (is_sorted R (front ++ middle ∷ back)) → put R k v (front ++ middle ∷ back)
      ≡ front ++ middle ∷ put R k v back
  put-back k v [] middle back greater sorted = ap
      (λ r. by_order r ((k, v) ∷ middle ∷ back) ((middle.0, v) ∷ back)
      (middle ∷ put R k v back)) greater
  put-back k v (e ∷ front) middle back greater sorted =
      ap (λ r. by_order r ((k, v) ∷ e ∷ (front ++ middle ∷ back)) ((e.0, v) ∷ (front ++ middle ∷ back))
      (e ∷ put R k v (front ++ middle ∷ back)))
      (behind_front o e.0 k middle.0 (before_middle R e.0 front middle back (both_first _ _ sorted))
      (λ less. subst (λ r. T (is_lt r)) (sym less ∙ greater) tt))
      ∙ ap (λ rest. e ∷ rest) (put-back k v front middle back greater (both_second _ _ sorted))

-- the first entry behind a word that stands before the middle: one in front of it, or the middle
pub first_behind-front : {V : Type 0} (q : List ℕ) (front : List (List ℕ × V)) (middle : List ℕ × V)
    (back : List (List ℕ × V)) → is_lt (by_words q middle.0) ≡ true
    → first_behind q (front ++ middle ∷ back) ≡ or_this (first_behind q front) middle
first_behind-front q [] middle back less = ap (λ b. if b then Some middle else first_behind q back) less
first_behind-front q (e ∷ front) middle back less =
    elim (is_lt (by_words q e.0)) as (λ b. (if b then Some e else first_behind q (front ++ middle ∷ back))
    ≡ or_this (if b then Some e else first_behind q front) middle) [
      | true ↦ refl
      | false ↦ first_behind-front q front middle back less
    ]

-- the first entry behind a word that doesn't stand before the middle stands behind the middle
pub first_behind-back : {V : Type 0} (q : List ℕ) (front : List (List ℕ × V)) (middle : List ℕ × V)
    (back : List (List ℕ × V)) → is_lt (by_words q middle.0) ≡ false → T
    (is_sorted by_words (front ++ middle ∷ back))
    → first_behind q (front ++ middle ∷ back) ≡ first_behind q back
first_behind-back q [] middle back behind sorted = ap
    (λ b. if b then Some middle else first_behind q back) behind
first_behind-back q (e ∷ front) middle back behind sorted =
    ap (λ r. if is_lt r then Some e else first_behind q (front ++ middle ∷ back))
    (behind_front nat_list_cmp_total e.0 q middle.0
    (before_middle by_words e.0 front middle back (both_first _ _ sorted))
    (λ less. subst T (sym (ap is_lt less) ∙ behind) tt))
    ∙ first_behind-back q front middle back behind (both_second _ _ sorted)
