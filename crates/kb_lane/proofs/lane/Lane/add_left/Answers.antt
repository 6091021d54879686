use Rattle.std.proofs.Common.{refl}
use Rattle.kb_lane.specs.Asking.{asked_for}
use Rattle.kb_lane.specs.Private.Looking.{left_one, left_of}
use Rattle.kb_lane.proofs.LookingUp.{each_on}
use Rattle.kb_lane.proofs.lane.Lane.add_left.Goals as goal

pub loop-key-preserved : goal.loop-key-preserved
loop-key-preserved g c =
    each_on (λ key. left_one c.args.self.now (asked_for (c.args.account, key)))
    (left_of c.args.self.now c.args.account) (λ key later. refl) c.args.keys.now c.loop-key.key-index
    c.key-item.result c.loop-key.payments.items _ _ c.loop-key-test.true c.key-item.is
    c.in_ok-add_one.ensures c.loop-key.invariant
