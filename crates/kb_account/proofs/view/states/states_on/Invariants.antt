-- The rows so far.
use Rattle.std.proofs.Common.{◌≡◌, take}
use Rattle.kb_account.specs.Sums.{states_from}
use Rattle.kb_account.proofs.view.states.states_on.Given as goal

abbrev pub invariant-loop-sub : goal.invariant-loop-sub
invariant-loop-sub l =
    l.rows.items ≡ take l.sub (states_from l.facts l.day 0 l.facts.timeline.subscriptions)
