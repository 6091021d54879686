-- The last days are those that are taken off.
use Rattle.kb_base.proofs.Intervals.{push_stretch-last}
use Rattle.kb_tree.proofs.days.push_run.Goals as goal

pub returns-in-Some-pop : goal.returns-in-Some-pop
returns-in-Some-pop g c =
    rw (
      c.in-Some.is,
      c.in-Some-pop.ensures.items,
      push_stretch-last g.V.PartialEq.eq c.pop.new.self.items c.in-Some-pop.last
          (record { from = c.args.from; to = c.args.to; value = c.in-Some.value }),
    )
    c.push_behind.ensures
