-- Two places that are there make a pair.
use Rattle.std.proofs.Common.{◌≡◌, ℕ, Option, Some, refl}
use Rattle.kb_catalog.specs.LookUp.{both_places}

-- both places, where both are there
pub both_places-some : (list plan : ℕ) (lists plans : Option ℕ) → lists ≡ Some list → plans ≡ Some plan
    → both_places lists plans ≡ Some (list, plan)
both_places-some list plan lists plans list_there plan_there = rw (list_there, plan_there) refl
