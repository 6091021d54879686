-- The trees in which the members of a list lie.
use Rattle.std.specs.Prelude.{ℕ, ◌≡◌, ◌+◌, ◌*◌, ◌/◌, List, [], ◌∷◌, ◌++◌, length, ⊤}
use Rattle.std.specs.Arc.{arc_value}
use Rattle.kb_sharing.specs.declared.list.tree.Tree.{Tree, One, Two'}
use Rattle.kb_sharing.specs.declared.list.spine.Spine.{Spine, Empty, More'}

-- the members of a tree, in their order
abbrev pub tree_members : {T : Type 0} → Tree T → List T
tree_members (One member) = member ∷ []
tree_members (Two' _ first _ second last) =
    tree_members first ++ tree_members second ++ arc_value last ∷ []

-- the tree has so many members, and so have any two trees that stand side by side in it
abbrev pub IsSized : {T : Type 0} → ℕ → Tree T → Type 0
IsSized size (One member) = size ≡ 1
IsSized size (Two' _ first _ second last) =
    (size ≡ 2 * (size / 2) + 1) × IsSized (size / 2) first × IsSized (size / 2) second

-- the members of some trees, in their order
abbrev pub spine_members : {T : Type 0} → Spine T → List T
spine_members Empty = []
spine_members (More' _ before start size tree) = spine_members before ++ tree_members (arc_value tree)

-- the numbers that stand beside the trees are true
abbrev pub IsSpine : {T : Type 0} → Spine T → Type 0
IsSpine Empty = ⊤
IsSpine (More' _ before start size tree) =
    IsSpine before × (start ≡ length (spine_members before)) × IsSized size (arc_value tree)
