-- Trees have as many members as is said of them, and where a member of a tree stands.
use Rattle.std.proofs.Common.{ℕ, ◌≡◌, ◌+◌, ◌-◌, ◌*◌, ◌/◌, ◌<◌, ◌≤◌, List, [], ◌∷◌, ◌++◌, length, arith}
use Rattle.std.proofs.Common.{length-append, slice_get, set, Some, ◌∙◌, sym, ap, subst}
use Rattle.std.proofs.lemmas.List.{set-append_right, set-append_left}
use Rattle.std.specs.Global.{Global}
use Rattle.std.specs.declared.sync.Arc.{Arc}
use Rattle.std.specs.Arc.{arc_value}
use Rattle.kb_sharing.specs.declared.list.tree.Tree.{Tree, One, Two'}
use Rattle.kb_sharing.specs.declared.list.spine.Spine.{Spine}
use Rattle.kb_sharing.specs.declared.list.spine.Spine.TheVariants.{More}
use Rattle.kb_sharing.specs.Private.Trees.{tree_members, spine_members, IsSized, IsSpine}
use Rattle.kb_sharing.proofs.Places.{slice_get-append_left, slice_get-append_right}

-- a tree has as many members as is said of it
pub length_tree : {T : Type 0} (size : ℕ) (tree : Tree T)
    → IsSized size tree → length (tree_members tree) ≡ size
length_tree size (One member) sized = sym sized
length_tree size (Two' p first q second last) sized =
    let here = length_tree (size / 2) first sized.1 in
    let there = length_tree (size / 2) second sized.2 in
    let whole = sized.0 in
    simp length-append (omega arith)

-- two lists of one length, and a member behind them
module _ {X : Type 0} (xs ys : List X) (x : X) (half : ℕ)
    (one : length xs ≡ half) (two : length ys ≡ half) where
  -- a member of the first list
  pub slice_get-first : (place : ℕ) → place < half → slice_get (xs ++ ys ++ x ∷ []) place ≡ slice_get xs place
  slice_get-first place before =
      slice_get-append_left (xs ++ ys) (x ∷ []) place (simp length-append (omega arith))
      ∙ slice_get-append_left xs ys place (omega arith)

  -- a member of the second list
  pub slice_get-second : (place : ℕ) → half ≤ place → place - half < half
      → slice_get (xs ++ ys ++ x ∷ []) place ≡ slice_get ys (place - half)
  slice_get-second place behind before =
      slice_get-append_left (xs ++ ys) (x ∷ []) place (simp length-append (omega arith))
      ∙ slice_get-append_right xs ys place (omega arith) ∙ ap (λ n. slice_get ys (place - n)) one

  -- the member behind both
  pub slice_get-last : (place : ℕ) → half ≤ place → place - half ≡ half
      → slice_get (xs ++ ys ++ x ∷ []) place ≡ Some x
  slice_get-last place behind there =
      slice_get-append_right (xs ++ ys) (x ∷ []) place (simp length-append (omega arith))
      ∙ ap (slice_get (x ∷ []))
      (let e : place - length (xs ++ ys) ≡ 0 = simp length-append (omega arith) in e)

  -- another member in the first list
  pub set-first : (place : ℕ) (y : X) → place < half
      → set (xs ++ ys ++ x ∷ []) place y ≡ set xs place y ++ ys ++ x ∷ []
  set-first place y before =
      set-append_left (xs ++ ys) (x ∷ []) place y (simp length-append (omega arith))
      ∙ ap (λ zs. zs ++ x ∷ []) (set-append_left xs ys place y (omega arith))

  -- another member in the second list
  pub set-second : (place : ℕ) (y : X) → half ≤ place → place - half < half
      → set (xs ++ ys ++ x ∷ []) place y ≡ xs ++ set ys (place - half) y ++ x ∷ []
  set-second place y behind before =
      set-append_left (xs ++ ys) (x ∷ []) place y (simp length-append (omega arith))
      ∙ ap (λ zs. zs ++ x ∷ []) (set-append_right xs ys half place y one behind)

  -- another member behind both
  pub set-last : (place : ℕ) (y : X) → place ≡ half + half
      → set (xs ++ ys ++ x ∷ []) place y ≡ xs ++ ys ++ y ∷ []
  set-last place y there =
      set-append_right (xs ++ ys) (x ∷ []) (half + half) place y
      (simp length-append (omega arith)) (omega arith)
      ∙ ap (λ n. xs ++ ys ++ set (x ∷ []) n y) (let e : place - (half + half) ≡ 0 = omega arith in e)

-- the members of the trees before the last one, and of that one, are all members
pub length_spine : {T : Type 0} (before : Arc (Spine T) Global) (start size : ℕ) (last : Arc (Tree T) Global)
    → IsSpine (More before start size last)
    → length (spine_members (More before start size last)) ≡ start + size
length_spine before start size last sound =
    let here = length_tree size (arc_value last) sound.2 in
    simp length-append (omega arith)

-- two last trees of one size are not larger than all trees together
pub twice-le-length : {T : Type 0} (before : Arc (Spine T) Global) (start size : ℕ)
    (second : Arc (Tree T) Global) (earlier : Arc (Spine T) Global) (from other : ℕ)
    (first : Arc (Tree T) Global) (len : ℕ)
    → IsSpine (More before start size second) → arc_value before ≡ More earlier from other first
    → other ≡ size → len ≡ length (spine_members (More before start size second)) → 2 * size ≤ len
twice-le-length before start size second earlier from other first len sound is same counted =
    let sound_before = subst IsSpine is sound.0 in
    let front = ap (λ spine. length (spine_members spine)) is
    ∙ length_spine earlier from other first sound_before in
    let all = length_spine before start size second sound in
    let start_is = sound.1 in
    omega arith
