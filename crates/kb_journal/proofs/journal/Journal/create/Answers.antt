use Rattle.std.proofs.Common.{◌≡◌, ◌∙◌, [], List, ℕ, IsTrue, length, refl, sym, ap, arith}
use Rattle.kb_disk.proofs.Moments.{now_has}
use Rattle.kb_journal.specs.Beginnings.{HasOrBegins}
use Rattle.kb_journal.proofs.Bodies.{length-body-nil, created}
use Rattle.kb_journal.proofs.Unharmed.{begins_at_each_moment}
use Rattle.kb_journal.proofs.journal.Journal.create.Goals as goal

pub returns-clause-holds : goal.returns-clause-holds
returns-clause-holds g c honest =
    let middle : IsTrue (g.D.Disk.told.honest c.size.new.self) = c.size.ensures.honesty ∙ honest in
    let none : length (g.D.Disk.told.seen c.size.new.self) ≡ 0 =
    omega (arith, ap length (c.size.ensures.seen honest), c.in-Ok-eq0.ensures.size honest) in
    record {
      running = refl;
      kept = record {
        honest_disk = c.write_through.ensures.honesty ∙ middle;
        stands = created c.args.lanes c.args.lane _ _ _ none c.header_block.ensures
            (c.in_default.ensures.written middle);
        durable = c.in_default.ensures.durable middle;
        placed = sym (length-body-nil c.args.lanes c.args.lane);
      };
      counted = refl;
    }

pub returns-clause-moments : goal.returns-clause-moments
returns-clause-moments g c honest only =
    begins_at_each_moment g.D.Disk.told.seen g.D.Disk.told.images g.D.Disk.told.moment
    g.D.Disk.told.left_since c.args.lanes
    c.args.lane [] (length c.header_block.result) c.args.disk c.size.new.self c.write_through.new.disk
    (g.met.D.Disk.only_now c.args.disk) c.size.ensures.time c.size.ensures.crash only
    (c.size.ensures.seen honest)
    (omega (arith, ap length (c.size.ensures.seen honest), c.in-Ok-eq0.ensures.size honest))
    (ap length c.header_block.ensures) c.write_through.ensures.moments

pub returns-in-Err-write_through-clause-moments_too : goal.returns-in-Err-write_through-clause-moments_too
returns-in-Err-write_through-clause-moments_too g c honest only =
    begins_at_each_moment g.D.Disk.told.seen g.D.Disk.told.images g.D.Disk.told.moment
    g.D.Disk.told.left_since c.args.lanes
    c.args.lane [] (length c.header_block.result) c.args.disk c.size.new.self c.write_through.new.disk
    (g.met.D.Disk.only_now c.args.disk) c.size.ensures.time c.size.ensures.crash only
    (c.size.ensures.seen honest)
    (omega (arith, ap length (c.size.ensures.seen honest), c.in-Ok-eq0.ensures.size honest))
    (ap length c.header_block.ensures) c.write_through.ensures.moments

pub returns-in-Err-write_through-clause-unharmed : goal.returns-in-Err-write_through-clause-unharmed
returns-in-Err-write_through-clause-unharmed g c honest only =
    let middle : IsTrue (g.D.Disk.told.honest c.size.new.self) = c.size.ensures.honesty ∙ honest in
    let P : List ℕ → Type 0 = HasOrBegins c.args.lanes c.args.lane [] (g.D.Disk.told.seen c.args.disk) in
    now_has g.D.Disk.told.moment g.D.Disk.told.left_since g.D.Disk.told.images c.args.disk
    c.write_through.new.disk P
    (g.met.D.Disk.counts_now c.write_through.new.disk)
    (returns-in-Err-write_through-clause-moments_too g c honest only)
    (g.D.Disk.told.seen c.write_through.new.disk)
    (g.met.D.Disk.seen_is_image c.write_through.new.disk (c.write_through.ensures.honesty ∙ middle))
