-- What came back, lane by lane.
use Rattle.std.proofs.Common.{◌≡◌, ◌≢◌, ◌==◌, ℕ, Bool, true, false, List, [], ◌∷◌, ◌++◌, cond, map, refl, ap}
use Rattle.std.proofs.Common.{sym, append-nil, ◌∙◌}
use Rattle.std.specs.List.{filter}
use Rattle.std.proofs.lemmas.Bool.{eq-eqb, ne_eqb}
use Rattle.std.proofs.lemmas.List.{map-append}
use Rattle.std.proofs.lemmas.List.Elements.{filter-append}
use Rattle.kb_gateway.specs.ListGateways.{came_of}

module _ {A : Type 0} (came : List (ℕ × A)) (lane : ℕ) (one : A) where
  -- what came last is behind the others
  last : (number : ℕ) → came_of (came ++ (lane, one) ∷ []) number
      ≡ came_of came number ++ came_of ((lane, one) ∷ []) number
  last number =
      ap (λ (found : List (ℕ × A)). map (λ (came : ℕ × A). came.1) found)
      (filter-append (λ (came : ℕ × A). came.0 == number) came ((lane, one) ∷ []))
      ∙ map-append (λ (came : ℕ × A). came.1) (filter (λ (came : ℕ × A). came.0 == number) came)
      (filter (λ (came : ℕ × A). came.0 == number) ((lane, one) ∷ []))

  alone : (number : ℕ) (same : Bool) → (lane == number) ≡ same
      → came_of ((lane, one) ∷ []) number ≡ cond same (one ∷ []) []
  alone number true is = rw is refl
  alone number false is = rw is refl

  pub came_own : came_of (came ++ (lane, one) ∷ []) lane ≡ came_of came lane ++ one ∷ []
  came_own = last lane ∙ ap (λ (more : List A). came_of came lane ++ more)
      (alone lane true (eq-eqb lane lane refl))

  pub came_others : (number : ℕ) → number ≢ lane
      → came_of (came ++ (lane, one) ∷ []) number ≡ came_of came number
  came_others number other = last number
      ∙ ap (λ (more : List A). came_of came number ++ more)
      (alone number false (ne_eqb lane number (λ same. other (sym same))))
      ∙ append-nil (came_of came number)

pub ruleset came = (came_own, came_others)
