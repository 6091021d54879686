-- Members of a list: what holds of all, and what is put behind them.
use Rattle.std.proofs.Common.{◌≡◌, ℕ, zero, suc, List, [], ◌∷◌, ◌++◌, All, slice_get, Option, Some, None}
use Rattle.std.proofs.Common.{IfSome, subst}
use Rattle.std.specs.List.{last_or}
use Rattle.std.proofs.lemmas.Option.{none-some}
use Rattle.std.proofs.lemmas.List.Elements.{All-head, All-tail}

module _ {A : Type 0} where
  -- what holds of all holds of the one at a place
  pub All-at : (P : A → Type 0) (members : List A) (place : ℕ) (member : A) → All P members
      → slice_get members place ≡ Some member → P member
  All-at P [] place member all is = absurd (none-some member is)
  All-at P (first ∷ later) zero member all is =
      let same : first ≡ member = cc in subst P same (All-head P first later all)
  All-at P (first ∷ later) (suc place) member all is =
      All-at P later place member (All-tail P first later all) is

  -- and of the last one
  pub All-last : (P : A → Type 0) (before : Option A) (members : List A) (last : A) → IfSome before P
      → All P members → last_or before members ≡ Some last → P last
  All-last P None [] last held all is = absurd (none-some last is)
  All-last P (Some one) [] last held all is = let same : one ≡ last = cc in subst P same held
  All-last P before (first ∷ later) last held all is =
      All-last P (Some first) later last (All-head P first later all) (All-tail P first later all) is

  -- one that is there stays with others behind
  pub slice_get-longer : (members later : List A) (place : ℕ) (member : A)
      → slice_get members place ≡ Some member → slice_get (members ++ later) place ≡ Some member
  slice_get-longer [] later place member is = absurd (none-some member is)
  slice_get-longer (first ∷ rest) later zero member is = is
  slice_get-longer (first ∷ rest) later (suc place) member is = slice_get-longer rest later place member is
