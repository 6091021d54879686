-- What holds of no cover.
use Rattle.std.proofs.Common.{◌≡◌, ℕ, ◌∷◌, [], Option, None, IsSome, refl, sym, subst, true≢false}
use Rattle.std.specs.FinMap.{get-empty}
use Rattle.kb_due.specs.declared.cell.Cell.{Cell}
use Rattle.kb_sharing.specs.Keys.{by_words}
use Rattle.kb_tree.specs.Covers.{no_cover, cell_in, IsAbove, IsCoverOf}

-- it knows no cell
pub cell_in-no_cover : (number : ℕ) → cell_in no_cover number ≡ None
cell_in-no_cover number = get-empty by_words (number ∷ [])

-- each number is above those of its bills
pub above-no_cover : (first : ℕ) → IsAbove first no_cover
above-no_cover first number there =
    absurd (true≢false (sym (subst (λ (found : Option Cell). IsSome found) (cell_in-no_cover number) there)))

-- it is that of no items
pub no_cover-of : IsCoverOf no_cover []
no_cover-of = record { charged = λ day. refl; celled = cell_in-no_cover }
