-- The subscriptions that are left give what all give.
use Rattle.std.proofs.Common.{◌≡◌, bytes_eq, drop, map}
use Rattle.std.specs.Arc.{arc_value}
use Rattle.std.specs.List.{position_from}
use Rattle.kb_timeline.specs.declared.subscription.Subscription.{Subscription}
use Rattle.kb_timeline.proofs.places.subscription_named.Given as goal

abbrev pub invariant-loop-place : goal.invariant-loop-place
invariant-loop-place l =
    position_from (λ (subscription : Subscription). bytes_eq l.name subscription.name) l.place
    (map arc_value (drop l.place l.subscriptions))
    ≡ position_from (λ (subscription : Subscription). bytes_eq l.name subscription.name) 0
    (map arc_value l.subscriptions)
