-- What a search for the first member that passes a test tells of the members.
use Rattle.std.proofs.Common.{◌≡◌, ℕ, zero, suc, ◌+◌, ◌<◌, ◌≤◌, ◌⊎◌, inl, inr, Bool, true, false, List, []}
use Rattle.std.proofs.Common.{◌∷◌, ◌++◌, length, slice_get, take, Some, None, IsSome, IfSome, refl, ap, ◌∙◌}
use Rattle.std.proofs.Common.{arith}
use Rattle.std.specs.List.{All, position_from}
use Rattle.std.proofs.lemmas.List.Elements.{All-nil, All-cons}
use Rattle.std.proofs.lemmas.Option.{none-some}

module _ {A : Type 0} (test : A → Bool) where
  -- where none is found each member fails
  pub position_from-none : (start : ℕ) (members : List A) → position_from test start members ≡ None
      → All (λ (member : A). test member ≡ false) members
  position_from-none start [] none = All-nil (λ (member : A). test member ≡ false)
  position_from-none start (member ∷ later) none =
      by_test (test member) refl (position_from-none (start + 1) later)
    where
      by_test : (passes : Bool) → test member ≡ passes
          → (position_from test (start + 1) later ≡ None → All (λ (other : A). test other ≡ false) later)
          → All (λ (other : A). test other ≡ false) (member ∷ later)
      by_test true is rest = let found = rw is at none in absurd (cc)
      by_test false is rest =
          All-cons (λ (other : A). test other ≡ false) member later is (rest (rw is at none))

  -- where one is found its place is among the members
  pub position_from-within : (start place : ℕ) (members : List A)
      → position_from test start members ≡ Some place → place < start + length members
  position_from-within start place [] found = absurd (none-some place found)
  position_from-within start place (member ∷ later) found =
      by_test (test member) refl (position_from-within (start + 1) place later)
    where
      by_test : (passes : Bool) → test member ≡ passes
          → (position_from test (start + 1) later ≡ Some place → place < start + 1 + length later)
          → place < start + length (member ∷ later)
      by_test true is rest = let here : start ≡ place = let there = rw is at found in cc in omega arith
      by_test false is rest = let behind = rest (rw is at found) in omega arith

  -- where one is found its place isn't before the first
  position_from-low : (start place : ℕ) (members : List A) → position_from test start members ≡ Some place
      → start ≤ place
  position_from-low start place [] found = absurd (none-some place found)
  position_from-low start place (member ∷ later) found =
      by_test (test member) refl (position_from-low (start + 1) place later)
    where
      by_test : (passes : Bool) → test member ≡ passes
          → (position_from test (start + 1) later ≡ Some place → start + 1 ≤ place) → start ≤ place
      by_test true is rest = let here : start ≡ place = let there = rw is at found in cc in omega arith
      by_test false is rest = let behind = rest (rw is at found) in omega arith

  -- the member that is found passes, and none before it does
  pub position_from-first : (start count : ℕ) (members : List A)
      → position_from test start members ≡ Some (start + count)
      → IfSome (slice_get members count) (λ (member : A). test member ≡ true)
      × All (λ (member : A). test member ≡ false) (take count members)
  position_from-first start count [] found = absurd (none-some (start + count) found)
  position_from-first start zero (member ∷ later) found =
      (by_test (test member) refl, All-nil (λ (other : A). test other ≡ false))
    where
      by_test : (passes : Bool) → test member ≡ passes → test member ≡ true
      by_test true is = is
      by_test false is =
          let low =
          position_from-low (start + 1) (start + zero) later (rw is at found) in absurd (omega arith)
  position_from-first start (suc count) (member ∷ later) found =
      by_test (test member) refl (position_from-first (start + 1) count later)
    where
      by_test : (passes : Bool) → test member ≡ passes
          → (position_from test (start + 1) later ≡ Some (start + 1 + count)
          → IfSome (slice_get later count) (λ (other : A). test other ≡ true)
          × All (λ (other : A). test other ≡ false) (take count later))
          → IfSome (slice_get later count) (λ (other : A). test other ≡ true)
          × All (λ (other : A). test other ≡ false) (member ∷ take count later)
      by_test true is rest =
          let here : start ≡ start + suc count = let there = rw is at found in cc in absurd (omega arith)
      by_test false is rest =
          let at : start + suc count ≡ start + 1 + count = omega arith in
          let behind = rest (rw is at found ∙ ap (λ place. Some place) at) in
          (behind.0, All-cons (λ (other : A). test other ≡ false) member (take count later) is behind.1)

  -- a member is found where one is, or a new one that passes stands behind them
  pub position_from-push : (start : ℕ) (members : List A) (new : A)
      → IsSome (position_from test start members) ⊎ (test new ≡ true)
      → IsSome (position_from test start (members ++ new ∷ []))
  position_from-push start [] new (inl found) = let none : false ≡ true = found in absurd (cc)
  position_from-push start [] new (inr passes) = rw passes refl
  position_from-push start (member ∷ later) new either =
      by_test (test member) refl either (position_from-push (start + 1) later new)
    where
      by_test : (passes : Bool) → test member ≡ passes
          → IsSome (position_from test start (member ∷ later)) ⊎ (test new ≡ true)
          → (IsSome (position_from test (start + 1) later) ⊎ (test new ≡ true)
          → IsSome (position_from test (start + 1) (later ++ new ∷ [])))
          → IsSome (position_from test start (member ∷ later ++ new ∷ []))
      by_test true is some rest = rw is refl
      by_test false is (inl found) rest = rw is (rest (inl (rw is at found)))
      by_test false is (inr passes) rest = rw is (rest (inr passes))
