-- The keys of shared maps, and their order.
use Rattle.std.specs.Prelude.{ℕ, ◌≡◌, List, [], ◌∷◌, Option, Some, None, if◌then◌else◌, refl, codes}
use Rattle.std.specs.declared.cmp.Ordering.{Ordering}
use Rattle.std.specs.Ordering.{nat_cmp, is_lt}
use Rattle.std.specs.Cmp.Lexicographic.{slice_cmp}
use Rattle.std.specs.FinMap as map

-- words by their first number, then by their second one, and so on; a word stands before a longer one
abbrev pub by_words : List ℕ → List ℕ → Ordering
by_words = slice_cmp nat_cmp

-- what a shared map is: at some words a value each
abbrev pub SharedEntries : Type 0 → Type 0
SharedEntries V = map.FinMap by_words V

-- the first of some entries that stands behind a word
abbrev pub first_behind : {V : Type 0} → List ℕ → List (List ℕ × V) → Option (List ℕ × V)
first_behind word [] = None
first_behind word (entry ∷ entries) =
    if is_lt (by_words word entry.0) then Some entry else first_behind word entries

behind_silver : first_behind {V = ℕ} (codes "silver")
    ((codes "gold", 1) ∷ (codes "silver", 2) ∷ (codes "tin", 3) ∷ [])
    ≡ Some (codes "tin", 3)
behind_silver = refl
