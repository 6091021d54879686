-- At first there is no bill.
use Rattle.kb_tree.proofs.NoCover.{above-no_cover}
use Rattle.tests_due.proofs.covers.covers.holds.Goals as goal

pub loop-turn-init : goal.loop-turn-init
loop-turn-init g c = rw c.new-cover.ensures (above-no_cover 1)
