-- What holds of the entries that are left holds of all, among whichever days keep those so far.
use Rattle.std.proofs.Common.{ℕ, List, drop, All}
use Rattle.kb_events.specs.Private.Cuts.{HasEntry, KeepsDays}
use Rattle.kb_events.proofs.cutting.push_entries.Given as goal

abbrev pub invariant-loop-entry : goal.invariant-loop-entry
invariant-loop-entry l =
    KeepsDays l.fn.days.items l.days.items
    × ((more : List ℕ) → KeepsDays l.days.items more → All (HasEntry more l.catalog)
    (drop l.entry-index l.entries) → All (HasEntry more l.catalog) l.entries)
