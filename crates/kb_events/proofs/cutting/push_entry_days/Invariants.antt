-- What holds of the days that are left holds of all, among whichever days keep those so far.
use Rattle.std.proofs.Common.{ℕ, List, drop, All}
use Rattle.kb_timeline.specs.declared.entry.Entry.{Entry}
use Rattle.kb_events.specs.Private.Cuts.{HasDay, KeepsDays}
use Rattle.kb_events.proofs.cutting.push_entry_days.Given as goal

abbrev pub invariant-loop-entry : goal.invariant-loop-entry
invariant-loop-entry l =
    KeepsDays l.fn.days.items l.days.items
    × ((more : List ℕ) → KeepsDays l.days.items more → All (λ (entry : Entry). HasDay more entry.day)
    (drop l.entry-index l.entries) → All (λ (entry : Entry). HasDay more entry.day) l.entries)
