-- Bills with their cells, in the order of their numbers.
use Rattle.std.specs.Prelude.{ℕ, ◌<◌, List, [], ◌∷◌, map, IsSome}
use Rattle.std.specs.FinMap as map_of
use Rattle.std.specs.List.{AllPairs}
use Rattle.kb_sharing.specs.Keys.{SharedEntries}
use Rattle.kb_due.specs.declared.cell.Cell.{Cell}

-- the number of a bill, and its cell
abbrev pub NumberedCell : Type 0
NumberedCell = ℕ × Cell

-- bills by the words of their numbers
abbrev pub worded : List NumberedCell → List (List ℕ × Cell)
worded bills = map (λ (bill : NumberedCell). ((bill.0 ∷ []), bill.1)) bills

-- each number is below those behind it
abbrev pub IsRising : List NumberedCell → Type 0
IsRising bills = AllPairs (λ (bill later : NumberedCell). bill.0 < later.0) bills

-- each bill with a cell has a number below one
abbrev pub AreBelow : SharedEntries Cell → ℕ → Type 0
AreBelow cells first = (number : ℕ) → IsSome (map_of.get cells (number ∷ [])) → number < first
