-- What the way down a tree finds is what the map of the tree's entries says, where those are in order.
use Rattle.std.proofs.Common.{ℕ, ◌≡◌, ◌+◌, true, false, List, [], ◌∷◌, ◌++◌, Some, if◌then◌else◌, cond}
use Rattle.std.proofs.Common.{length, refl, sym, ap, ◌∙◌, T, is_some}
use Rattle.std.specs.declared.cmp.Ordering.TheVariants.{Less, Equal, Greater}
use Rattle.std.specs.Ordering.{is_lt}
use Rattle.std.specs.Cmp.{IsTotalOrder}
use Rattle.std.specs.Cmp.Lexicographic.{nat_list_cmp_total}
use Rattle.std.specs.FinMap as map
use Rattle.std.specs.FinMap.Entries.{find, put, is_sorted, by_order, is_sorted-put, length-put}
use Rattle.std.specs.Arc.{arc_value}
use Rattle.kb_sharing.specs.declared.map.tree.Tree.{Tree, Empty, One, Fork'}
use Rattle.kb_sharing.specs.Keys.{by_words, first_behind}
use Rattle.kb_sharing.specs.Private.Nodes.{pair_of, tree_entries, found, grown, tree_behind, or_this}
use Rattle.kb_sharing.specs.Private.Nodes.{IsSorted}
use Rattle.kb_sharing.proofs.SplitEntries.{sorted_front, sorted_back, find-front, find-middle, find-back}
use Rattle.kb_sharing.proofs.SplitEntries.{put-front, put-middle, put-back, first_behind-front}
use Rattle.kb_sharing.proofs.SplitEntries.{first_behind-back}

-- only a word itself ties with it
same_words : (x y : List ℕ) → by_words x y ≡ Equal → x ≡ y
same_words = map.slice_cmp-IsAntisymmetric map.nat_cmp-IsAntisymmetric

total : IsTotalOrder by_words
total = nat_list_cmp_total

module _ {K V : Type 0} (word : K → List ℕ) where
  found-find : (q : List ℕ) (tree : Tree K V) → T (is_sorted by_words (tree_entries word tree))
      → found word q tree ≡ find by_words q (tree_entries word tree)
  found-find q Empty sorted = refl
  found-find q (One entry) sorted = refl
  found-find q (Fork' height p before entry behind) sorted =
      let front = tree_entries word before in
      let here = pair_of word (arc_value entry) in
      let back = tree_entries word behind in
      elim (by_words q here.0) as (λ o. by_words q here.0 ≡ o
      → by_order o (found word q before) (Some here.1) (found word q behind) ≡ find by_words q
      (front ++ here ∷ back)) [
        | Less ↦ λ e. found-find q before (sorted_front by_words front here back sorted)
            ∙ sym (find-front total q front here back e sorted)
        | Equal ↦ λ e. sym (find-middle total q front here back e sorted)
        | Greater ↦ λ e. found-find q behind (sorted_back by_words front here back sorted)
            ∙ sym (find-back total q front here back e sorted)
      ] refl

  grown-put : (new : List ℕ × V) (tree : Tree K V) → T (is_sorted by_words (tree_entries word tree))
      → grown word new tree ≡ put by_words new.0 new.1 (tree_entries word tree)
  grown-put new Empty sorted = refl
  grown-put new (One entry) sorted =
      let here = pair_of word (arc_value entry) in
      elim (by_words new.0 here.0) as (λ o. by_words new.0 here.0 ≡ o
      → by_order o (new ∷ here ∷ []) (new ∷ []) (here ∷ new ∷ [])
      ≡ by_order o (new ∷ here ∷ []) ((here.0, new.1) ∷ []) (here ∷ new ∷ [])) [
        | Less ↦ λ e. refl
        | Equal ↦ λ e. ap (λ w. (w, new.1) ∷ []) (same_words new.0 here.0 e)
        | Greater ↦ λ e. refl
      ] refl
  grown-put new (Fork' height p before entry behind) sorted =
      let front = tree_entries word before in
      let here = pair_of word (arc_value entry) in
      let back = tree_entries word behind in
      elim (by_words new.0 here.0) as (λ o. by_words new.0 here.0 ≡ o
      → by_order o (grown word new before ++ here ∷ back) (front ++ new ∷ back)
      (front ++ here ∷ grown word new behind)
      ≡ put by_words new.0 new.1 (front ++ here ∷ back)) [
        | Less ↦ λ e. ap (λ es. es ++ here ∷ back)
            (grown-put new before (sorted_front by_words front here back sorted))
            ∙ sym (put-front by_words new.0 new.1 front here back e)
        | Equal ↦ λ e. ap (λ w. front ++ (w, new.1) ∷ back) (same_words new.0 here.0 e)
            ∙ sym (put-middle total new.0 new.1 front here back e sorted)
        | Greater ↦ λ e. ap (λ es. front ++ here ∷ es)
            (grown-put new behind (sorted_back by_words front here back sorted))
            ∙ sym (put-back total new.0 new.1 front here back e sorted)
      ] refl

  tree_behind-first : (q : List ℕ) (tree : Tree K V) → T (is_sorted by_words (tree_entries word tree))
      → tree_behind word q tree ≡ first_behind q (tree_entries word tree)
  tree_behind-first q Empty sorted = refl
  tree_behind-first q (One entry) sorted = refl
  tree_behind-first q (Fork' height p before entry behind) sorted =
      let front = tree_entries word before in
      let here = pair_of word (arc_value entry) in
      let back = tree_entries word behind in
      elim (is_lt (by_words q here.0)) as (λ b. is_lt (by_words q here.0) ≡ b
      → (if b then or_this (tree_behind word q before) here else tree_behind word q behind)
      ≡ first_behind q (front ++ here ∷ back)) [
        | true ↦ λ e. ap (λ o. or_this o here)
            (tree_behind-first q before (sorted_front by_words front here back sorted))
            ∙ sym (first_behind-front q front here back e)
        | false ↦ λ e. tree_behind-first q behind (sorted_back by_words front here back sorted)
            ∙ sym (first_behind-back q front here back e sorted)
      ] refl

  -- a look-up
  pub found-get : (q : List ℕ) (tree : Tree K V) → IsSorted (tree_entries word tree)
      → found word q tree ≡ map.get (map.from_sorted {R = by_words} (tree_entries word tree)) q
  unfolding IsSorted
  found-get q tree sorted = found-find q tree sorted ∙ sym
      (map.get-from_sorted by_words (tree_entries word tree) q sorted)

  -- the next entry
  pub tree_behind-entries : (q : List ℕ) (tree : Tree K V) → IsSorted (tree_entries word tree)
      → tree_behind word q tree ≡ first_behind q
      (map.entries (map.from_sorted {R = by_words} (tree_entries word tree)))
  unfolding IsSorted
  tree_behind-entries q tree sorted = tree_behind-first q tree sorted
      ∙ ap (first_behind q) (sym (map.entries-from_sorted by_words (tree_entries word tree) sorted))

  -- what a tree grows to
  pub grown-entries : (new : List ℕ × V) (tree : Tree K V) → IsSorted (tree_entries word tree)
      → grown word new tree ≡ put by_words new.0 new.1 (tree_entries word tree)
  unfolding IsSorted
  grown-entries new tree sorted = grown-put new tree sorted

  -- how many entries there are with a value at a key
  pub length-with : (tree : Tree K V) (k : List ℕ) (v : V) (len : ℕ)
      → IsSorted (tree_entries word tree) → len ≡ length (tree_entries word tree)
      → cond (is_some (found word k tree)) len (len + 1)
      ≡ length (put by_words k v (tree_entries word tree))
  unfolding IsSorted
  length-with tree k v len sorted counted =
      ap (λ n. cond (is_some (found word k tree)) n (n + 1)) counted
      ∙ ap (λ found. cond (is_some found) (length (tree_entries word tree))
      (length (tree_entries word tree) + 1)) (found-find k tree sorted)
      ∙ sym (length-put by_words total k v (tree_entries word tree) sorted)

-- the map of entries in order
module _ {V : Type 0} (es : List (List ℕ × V)) (sorted : IsSorted es) where
  -- has those entries
  pub entries-sorted : map.entries (map.from_sorted {R = by_words} es) ≡ es
  unfolding IsSorted
  entries-sorted = map.entries-from_sorted by_words es sorted

  -- has as many
  pub len-sorted : map.len (map.from_sorted {R = by_words} es) ≡ length es
  len-sorted = map.len-entries _ ∙ ap length entries-sorted

  -- stays in order with a value at a key
  pub put-sorted : (k : List ℕ) (v : V) → IsSorted (put by_words k v es)
  unfolding IsSorted
  put-sorted k v = is_sorted-put by_words total k v es sorted

  -- has that value there
  pub put-insert : (k : List ℕ) (v : V)
      → map.from_sorted {R = by_words} (put by_words k v es) ≡ map.insert
      (map.from_sorted {R = by_words} es) k v
  unfolding IsSorted
  put-insert k v = map.same_entries_map _ _
      (map.entries-from_sorted by_words (put by_words k v es) (put-sorted k v)
      ∙ ap (put by_words k v) (sym entries-sorted) ∙ sym (map.entries-insert total (map.from_sorted es) k v))

-- no entries are in order
pub sorted-none : (V : Type 0) → IsSorted {V = V} []
unfolding IsSorted
sorted-none V = tt

-- the map of no entries is empty
pub empty-sorted : (V : Type 0) → map.from_sorted {X = V} {R = by_words} [] ≡ map.empty
empty-sorted V = map.empty_of_len _ (len-sorted [] (sorted-none V))
