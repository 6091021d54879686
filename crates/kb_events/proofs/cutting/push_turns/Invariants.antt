-- What holds of the days that are left holds of all, among whichever days keep those so far.
use Rattle.std.proofs.Common.{ℕ, List, drop, All}
use Rattle.kb_events.specs.Private.Cuts.{HasDay, KeepsDays}
use Rattle.kb_events.proofs.cutting.push_turns.Given as goal

abbrev pub invariant-loop-turn : goal.invariant-loop-turn
invariant-loop-turn l =
    KeepsDays l.fn.days.items l.days.items
    × ((more : List ℕ) → KeepsDays l.days.items more → All (HasDay more) (drop l.turn-index l.turns) → All
    (HasDay more) l.turns)
