use Rattle.std.proofs.Common.{drop, sym}
use Rattle.kb_lane.proofs.LaneWork.{front_takes_work}
use Rattle.kb_lane.proofs.lane.Lane.handle_next.Goals as goal

pub returns-clause-lowers : goal.returns-clause-lowers
returns-clause-lowers g c =
    front_takes_work g.D.Disk.told.fault_count g.G.Gateway.told
    c.args.self.now
    c.handle.new.self c.args.today c.is_within.ensures.last c.is_within.ensures.few c.in-Some.work
    (drop 1 c.args.self.now.outbox) c.handle.result (sym c.in-Some.ensures) c.handle.ensures.looks
    c.handle.ensures.orders
