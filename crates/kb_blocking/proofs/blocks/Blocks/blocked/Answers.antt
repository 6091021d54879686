use Rattle.std.proofs.Common.{◌∙◌}
use Rattle.kb_blocking.proofs.CountedStays.{counts_on-is_on}
use Rattle.kb_blocking.proofs.blocks.Blocks.blocked.Goals as goal

pub returns : goal.returns
returns c =
    c.is_any_on.ensures
    ∙ rw (c.as_slice.ensures, c.number.ensures.value, ← c.self.view_is)
    (counts_on-is_on c.self.inside.states c.self.inside.stays c.args.chain c.args.flag c.args.day
    c.self.invariant.1)
