-- The bundles that are left give what all give.
use Rattle.std.proofs.Common.{◌≡◌, ℕ, List, bytes_eq, drop}
use Rattle.std.specs.List.{position_from}
use Rattle.kb_timeline.proofs.places.bundle_named.Given as goal

abbrev pub invariant-loop-place : goal.invariant-loop-place
invariant-loop-place l =
    position_from (λ (other : List ℕ). bytes_eq l.name other) l.place (drop l.place l.bundles)
    ≡ position_from (λ (other : List ℕ). bytes_eq l.name other) 0 l.bundles
