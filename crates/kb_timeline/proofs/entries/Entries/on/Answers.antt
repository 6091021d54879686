-- The entry that is found governs the day, so it is dated by then.
use Rattle.std.proofs.Common.{◌∙◌, sym, ap, option_and_then, slice_get}
use Rattle.kb_timeline.proofs.DatedEntries.{entry_on-dated}
use Rattle.kb_timeline.proofs.entries.Entries.on.Goals as goal

pub returns-in-Some-clause-dated : goal.returns-in-Some-clause-dated
returns-in-Some-clause-dated c =
    entry_on-dated c.args.self.now c.args.day c.at.result
    (c.at.ensures ∙ ap (option_and_then (slice_get c.args.self.now)) (sym c.in-Some.is)
    ∙ c.governing.ensures.entry)
