-- Where the subscription of a name stands.
use Rattle.std.proofs.Common.{◌≡◌, ℕ, zero, suc, ◌+◌, ◌<◌, Bool, true, false, List, [], ◌∷◌, length}
use Rattle.std.proofs.Common.{slice_get, Some, IsSome, refl, bytes_eq, arith}
use Rattle.std.specs.List.{position_from}
use Rattle.std.proofs.lemmas.Option.{none-some}
use Rattle.kb_timeline.specs.declared.subscription.Subscription.{Subscription}
use Rattle.kb_timeline.specs.TimelineEdits.{TimelineValue, subscription_named}

-- the first member that passes a test is among the members
position_from-within : {A : Type 0} (test : A → Bool) (start place : ℕ) (members : List A)
    → position_from test start members ≡ Some place → place < start + length members
position_from-within test start place [] found = absurd (none-some place found)
position_from-within {A} test start place (member ∷ later) found =
    by_test (test member) refl (position_from-within test (start + 1) place later)
  where
    by_test : (passes : Bool) → test member ≡ passes
        → (position_from test (start + 1) later ≡ Some place → place < start + 1 + length later)
        → place < start + length (member ∷ later)
    by_test true is rest = let here : start ≡ place = let there = rw is at found in cc in omega arith
    by_test false is rest = let behind = rest (rw is at found) in omega arith

-- the subscription of a name is among the subscriptions
pub sub_within : (timeline : TimelineValue) (name : List ℕ) (sub : ℕ)
    → subscription_named timeline name ≡ Some sub → sub < length timeline.subscriptions
sub_within timeline name sub found =
    let within = position_from-within (λ (subscription : Subscription). bytes_eq name subscription.name) 0 sub
    timeline.subscriptions found in
    omega arith

-- there is a member at each place below the length
slice_get-some : {A : Type 0} (place : ℕ) (members : List A) → place < length members
    → IsSome (slice_get members place)
slice_get-some place [] below = absurd (omega arith)
slice_get-some zero (member ∷ later) below = refl
slice_get-some (suc place) (member ∷ later) below = slice_get-some place later (omega arith)

-- and there is one at its place
pub sub_there : (timeline : TimelineValue) (name : List ℕ) (sub : ℕ)
    → subscription_named timeline name ≡ Some sub → IsSome (slice_get timeline.subscriptions sub)
sub_there timeline name sub found =
    slice_get-some sub timeline.subscriptions (sub_within timeline name sub found)

pub ruleset found = (sub_within, sub_there)
