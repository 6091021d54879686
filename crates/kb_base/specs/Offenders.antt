-- The first offender against a rule: the least place at which it is broken.
use Rattle.std.specs.Prelude.{ℕ, zero, suc, ◌+◌, ◌≡◌, Bool, false, nat_eq, if◌then◌else◌, List}
use Rattle.std.specs.Prelude.{[], ◌∷◌, take, slice_get, Option, Some, None, refl}
use Rattle.std.specs.List.{list_any}

-- the first place, of so many from one on, that passes a test
abbrev pub first_place_from : (ℕ → Bool) → ℕ → ℕ → Option ℕ
first_place_from test place zero = None
first_place_from test place (suc count) =
    if test place then Some place else first_place_from test (place + 1) count

-- the first place, of so many, that passes a test
abbrev pub first_place : (ℕ → Bool) → ℕ → Option ℕ
first_place test count = first_place_from test 0 count

-- the member at a place passes a test
abbrev pub passes_at : {A : Type 0} → List A → ℕ → (A → Bool) → Bool
passes_at {A} members place test = of_member (slice_get members place)
  where
    of_member : Option A → Bool
    of_member None = false
    of_member (Some member) = test member

-- the member at a place stands earlier in the list too
abbrev pub repeats_at : {A : Type 0} → (A → A → Bool) → List A → ℕ → Bool
repeats_at same members place =
    passes_at members place (λ member. list_any (same member) (take place members))

first_repeat : first_place (repeats_at nat_eq (5 ∷ 6 ∷ 5 ∷ 6 ∷ [])) 4 ≡ Some 2
first_repeat = refl
