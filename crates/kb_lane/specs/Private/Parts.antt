-- Two parts that are read one after another.
use Rattle.std.specs.Prelude.{Option, Some, None}

-- both, if both are there
abbrev pub both_of : {A B : Type 0} → Option A → Option B → Option (A × B)
both_of (Some first) (Some second) = Some (first, second)
both_of (Some first) None = None
both_of None second = None
