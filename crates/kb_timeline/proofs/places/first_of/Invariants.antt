-- The subscriptions that are left give what all give.
use Rattle.std.proofs.Common.{◌≡◌, nat_eq, drop, map}
use Rattle.std.specs.Arc.{arc_value}
use Rattle.std.specs.List.{position_from}
use Rattle.kb_timeline.specs.declared.subscription.Subscription.{Subscription}
use Rattle.kb_timeline.proofs.places.first_of.Given as goal

abbrev pub invariant-loop-place : goal.invariant-loop-place
invariant-loop-place l =
    position_from (λ (subscription : Subscription). nat_eq subscription.bundle l.bundle) l.place
    (map arc_value (drop l.place l.subscriptions))
    ≡ position_from (λ (subscription : Subscription). nat_eq subscription.bundle l.bundle) 0
    (map arc_value l.subscriptions)
