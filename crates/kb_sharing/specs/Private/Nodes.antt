-- The trees in which the entries of a map lie. The first argument of each definition gives a key's word.
use Rattle.std.specs.Prelude.{ℕ, List, [], ◌∷◌, ◌++◌, Option, Some, None, if◌then◌else◌, T}
use Rattle.std.specs.Ordering.{is_lt, is_eq}
use Rattle.std.specs.FinMap.Entries.{by_order, is_sorted}
use Rattle.std.specs.Arc.{arc_value}
use Rattle.kb_sharing.specs.declared.map.tree.Entry.{Entry}
use Rattle.kb_sharing.specs.declared.map.tree.Tree.{Tree, Empty, One, Fork'}
use Rattle.kb_sharing.specs.Keys.{by_words}

-- an entry as the word of its key and its value
abbrev pub pair_of : {K V : Type 0} → (K → List ℕ) → Entry K V → List ℕ × V
pair_of word entry = (word entry.key, entry.value)

-- the entries of a tree, in their order
abbrev pub tree_entries : {K V : Type 0} → (K → List ℕ) → Tree K V → List (List ℕ × V)
tree_entries word Empty = []
tree_entries word (One entry) = pair_of word (arc_value entry) ∷ []
tree_entries word (Fork' height _ before entry behind) =
    tree_entries word before ++ pair_of word (arc_value entry) ∷ tree_entries word behind

-- the value that the way down a tree finds at a word
abbrev pub found : {K V : Type 0} → (K → List ℕ) → List ℕ → Tree K V → Option V
found word key Empty = None
found word key (One entry) =
    if is_eq (by_words key (word (arc_value entry).key)) then Some (arc_value entry).value else None
found word key (Fork' height _ before entry behind) =
    by_order (by_words key (word (arc_value entry).key))
    (found word key before) (Some (arc_value entry).value) (found word key behind)

-- an entry alone, with another one beside it or in its place
abbrev pub grown_one : {V : Type 0} → List ℕ × V → List ℕ × V → List (List ℕ × V)
grown_one new here = by_order (by_words new.0 here.0) (new ∷ here ∷ []) (new ∷ []) (here ∷ new ∷ [])

-- the entries of a tree, with another one where the way down a tree ends
abbrev pub grown : {K V : Type 0} → (K → List ℕ) → List ℕ × V → Tree K V → List (List ℕ × V)
grown word new Empty = new ∷ []
grown word new (One entry) = grown_one new (pair_of word (arc_value entry))
grown word new (Fork' height _ before entry behind) =
    by_order (by_words new.0 (word (arc_value entry).key))
    (grown word new before ++ pair_of word (arc_value entry) ∷ tree_entries word behind)
    (tree_entries word before ++ new ∷ tree_entries word behind)
    (tree_entries word before ++ pair_of word (arc_value entry) ∷ grown word new behind)

-- what is there, or else this
abbrev pub or_this : {A : Type 0} → Option A → A → Option A
or_this None this = Some this
or_this (Some there) this = Some there

-- the first entry behind a word that the way down a tree finds
abbrev pub tree_behind : {K V : Type 0} → (K → List ℕ) → List ℕ → Tree K V → Option (List ℕ × V)
tree_behind word key Empty = None
tree_behind word key (One entry) =
    if is_lt (by_words key (word (arc_value entry).key)) then Some (pair_of word (arc_value entry)) else None
tree_behind word key (Fork' height _ before entry behind) =
    if is_lt (by_words key (word (arc_value entry).key))
    then or_this (tree_behind word key before) (pair_of word (arc_value entry))
    else tree_behind word key behind

-- the words of some entries rise
unfoldable pub IsSorted : {V : Type 0} → List (List ℕ × V) → Type 0
IsSorted entries = T (is_sorted by_words entries)
