use Rattle.std.proofs.Common.{◌≡◌, refl, sym, ap, subst, ◌∙◌, ◌++◌, ◌∷◌, [], deque_items, drop, map, Some}
use Rattle.std.proofs.Common.{None, Ok, Err}
use Rattle.kb_codec.specs.declared.command.Command.TheVariants as kinds
use Rattle.kb_gateway.specs.Told.{payments_asked}
use Rattle.kb_gateway.proofs.Noted.{payments_noted}
use Rattle.kb_machine.specs.Histories.{replay}
use Rattle.kb_machine.specs.Plans.{changed, change_reply}
use Rattle.kb_lane.specs.Asking.{asked_for}
use Rattle.kb_lane.specs.Lanes.{machine_of, IsLane}
use Rattle.kb_lane.specs.Orders.{settled_by}
use Rattle.kb_lane.specs.Private.Settlements.{IsReadyOf}
use Rattle.kb_lane.specs.declared.work.Work.TheVariants as works
use Rattle.kb_lane.specs.Private.Runs.{SettlesNone}
use Rattle.kb_lane.proofs.Kept.{lane_asked, lane_frees, lane_grows, lane_stays, own_noted}
use Rattle.kb_lane.proofs.Settled.{chosen_command, unchosen_command, chosen_ready, settled_check}
use Rattle.kb_lane.proofs.Settled.{failed_history, fault_ready}
use Rattle.kb_lane.proofs.Settling.{order_asked, settled_frees, failed_writes}
use Rattle.kb_lane.proofs.WrittenDown.{appended_stands}
use Rattle.kb_lane.proofs.lane.Lane.ask.Goals as goal

pub invariant_of-self : goal.invariant_of-self
invariant_of-self g c =
    let order = order_asked (machine_of c.args.self.now) c.args.account c.args.key c.args.order.now
    c.requires.ordered in
    let front = sym (rw (← c.self.view_is) at c.requires.first) in
    let own = own_noted c.self.inside.own c.note.new.self c.args.account c.args.key c.note.ensures in
    let kept = lane_asked (payments_asked g.G.Gateway.told) c.self.inside.machine _ c.self.invariant
    c.args.account
    c.args.key _ _
    c.ask-answer.new.self _ front c.pop_front.ensures.rest own
    (rw (← order) (payments_noted _ _ c.args.order.now c.ask-answer.ensures.asked)) in
    kept

pub returns-in_default-clause-asked : goal.returns-in_default-clause-asked
returns-in_default-clause-asked g c = rw (← c.self.view_is) (λ later front.
    let is : settled_by c.args.account c.args.key c.ask-answer.result ≡ None
    = unchosen_command (machine_of c.args.self.now) c.args.today
    (settled_by c.args.account c.args.key c.ask-answer.result)
    (c.in_default.ensures (machine_of c.args.self.now) c.args.today c.args.account c.args.key
    c.requires.ready) in
    let order = order_asked (machine_of c.args.self.now) c.args.account c.args.key c.args.order.now
    c.requires.ordered in
    record {
      running = rw (← c.self.view_is) at c.requires.running;
      order = c.args.order.now;
      ordered = rw (← c.self.view_is) at c.requires.ordered;
      answer = c.ask-answer.result;
      heard = record {
        noted = c.ask-answer.ensures.asked;
        heard = c.ask-answer.ensures.said;
        canceled = c.ask-answer.ensures.canceled;
        same = c.ask-answer.ensures.same;
        cause = c.ask-answer.ensures.cause;
      };
      own = rw order (own_noted c.self.inside.own c.note.new.self c.args.account c.args.key c.note.ensures);
      settled = rw is (refl, (refl, c.pop_front.ensures.rest ∙ ap (λ works. drop 1 works) front));
      ready = λ same. absurd (cc);
    })

pub write-requires : goal.write-requires
write-requires g c =
    let ready = rw (← c.self.view_is) at (chosen_ready (machine_of c.args.self.now) c.args.today
    (settled_by c.args.account c.args.key c.ask-answer.result) c.in-Some.settlement
    (c.in-Some.ensures (machine_of c.args.self.now) c.args.today c.args.account c.args.key
    c.requires.ready)) in
    record {
      ready = subst (λ machine. IsReadyOf machine c.args.today c.in-Some.settlement.command
          c.in-Some.settlement)
          (sym c.self.invariant.replayed) ready;
    }

pub invariant_of-self-in-Ok : goal.invariant_of-self-in-Ok
invariant_of-self-in-Ok g c =
    let order = order_asked (machine_of c.args.self.now) c.args.account c.args.key c.args.order.now
    c.requires.ordered in
    let front = sym (rw (← c.self.view_is) at c.requires.first) in
    let own = own_noted c.self.inside.own c.note.new.self c.args.account c.args.key c.note.ensures in
    let kept = lane_asked (payments_asked g.G.Gateway.told) c.self.inside.machine _ c.self.invariant
    c.args.account
    c.args.key _ _
    c.ask-answer.new.self _ front c.pop_front.ensures.rest own
    (rw (← order) (payments_noted _ _ c.args.order.now c.ask-answer.ensures.asked)) in
    let is : settled_by c.args.account c.args.key c.ask-answer.result ≡ Some c.in-Some.settlement.command
    = chosen_command (machine_of c.args.self.now) c.args.today
    (settled_by c.args.account c.args.key c.ask-answer.result) c.in-Some.settlement
    (c.in-Some.ensures (machine_of c.args.self.now) c.args.today c.args.account c.args.key
    c.requires.ready) in
    let ready = rw (← c.self.view_is) at (chosen_ready (machine_of c.args.self.now) c.args.today
    (settled_by c.args.account c.args.key c.ask-answer.result) c.in-Some.settlement
    (c.in-Some.ensures (machine_of c.args.self.now) c.args.today c.args.account c.args.key
    c.requires.ready)) in
    let change = c.in-Some.settlement.change in
    lane_grows (payments_asked g.G.Gateway.told) c.self.inside.machine _ c.write.new.log kept
    c.in-Ok.ensures.same.0 c.args.today
    c.in-Some.settlement.command (change_reply change) (changed (replay c.self.inside.log.history) change) _ _
    ready.planned
    (c.in-Ok.ensures.machine ∙ ap (λ machine. changed machine change) c.self.invariant.replayed) ready.dated.1
    c.in-Ok.ensures.few
    (settled_frees c.args.account c.args.key c.ask-answer.result c.in-Some.settlement.command
    (deque_items c.pop_front.new.self) is
    (λ status. subst (SettlesNone (kinds.Settle (record {
      account = c.args.account;
      payment = c.args.key;
      status = status;
    }))) (sym c.pop_front.ensures.rest) (lane_frees (payments_asked g.G.Gateway.told)
    c.self.inside.machine _ c.self.invariant c.args.account c.args.key _ status front)))
    c.in-Ok.ensures.outcome.2
    (c.push_back_reserved.ensures.items ∙ ap (λ works. deque_items c.pop_front.new.self ++ works)
    (sym (settled_check c.args.today c.args.account
    c.args.key c.ask-answer.result c.in-Some.settlement.command is)))

pub invariant_of-self-in-Err : goal.invariant_of-self-in-Err
invariant_of-self-in-Err g c =
    let order = order_asked (machine_of c.args.self.now) c.args.account c.args.key c.args.order.now
    c.requires.ordered in
    let front = sym (rw (← c.self.view_is) at c.requires.first) in
    let own = own_noted c.self.inside.own c.note.new.self c.args.account c.args.key c.note.ensures in
    let kept = lane_asked (payments_asked g.G.Gateway.told) c.self.inside.machine _ c.self.invariant
    c.args.account
    c.args.key _ _
    c.ask-answer.new.self _ front c.pop_front.ensures.rest own
    (rw (← order) (payments_noted _ _ c.args.order.now c.ask-answer.ensures.asked)) in
    let same = failed_history g.D.Disk.told.fault_count c.self.inside.log c.write.new.log
    (c.args.today, c.in-Some.settlement.command) _ c.in-Err.fault c.in-Err.ensures.outcome in
    subst (λ machine. IsLane (payments_asked g.G.Gateway.told) machine (record {
      log = c.write.new.log;
      outbox = deque_items c.pop_front.new.self;
      gateway = c.ask-answer.new.self;
      own = map asked_for c.note.new.self;
    })) (sym c.in-Err.ensures.unchanged)
    (lane_stays (payments_asked g.G.Gateway.told) c.self.inside.machine _ c.write.new.log kept
    c.in-Err.ensures.same.0 same)

pub returns-in-Ok-clause-asked : goal.returns-in-Ok-clause-asked
returns-in-Ok-clause-asked g c = rw (← c.self.view_is) (λ later front.
    let is : settled_by c.args.account c.args.key c.ask-answer.result ≡ Some c.in-Some.settlement.command
    = chosen_command (machine_of c.args.self.now) c.args.today
    (settled_by c.args.account c.args.key c.ask-answer.result) c.in-Some.settlement
    (c.in-Some.ensures (machine_of c.args.self.now) c.args.today c.args.account c.args.key
    c.requires.ready) in
    let order = order_asked (machine_of c.args.self.now) c.args.account c.args.key c.args.order.now
    c.requires.ordered in
    record {
      running = rw (← c.self.view_is) at c.requires.running;
      order = c.args.order.now;
      ordered = rw (← c.self.view_is) at c.requires.ordered;
      answer = c.ask-answer.result;
      heard = record {
        noted = c.ask-answer.ensures.asked;
        heard = c.ask-answer.ensures.said;
        canceled = c.ask-answer.ensures.canceled;
        same = c.ask-answer.ensures.same;
        cause = c.ask-answer.ensures.cause;
      };
      own = rw order (own_noted c.self.inside.own c.note.new.self c.args.account c.args.key c.note.ensures);
      settled = rw is (record {
        history = c.in-Ok.ensures.outcome.2;
        outbox = c.push_back_reserved.ensures.items
            ∙ ap (λ earlier. earlier ++ works.Check c.args.account ∷ [])
            (c.pop_front.ensures.rest ∙ ap (λ before. drop 1 before) front)
            ∙ ap (λ more. later ++ more) (sym (settled_check c.args.today c.args.account c.args.key
            c.ask-answer.result c.in-Some.settlement.command is));
        failed = c.in-Ok.ensures.outcome.3;
        running = c.in-Ok.ensures.outcome.1;
        may = c.in-Ok.ensures.outcome.0;
      });
      ready = λ same. absurd (cc);
    })

pub returns-in-Ok-clause-moments : goal.returns-in-Ok-clause-moments
returns-in-Ok-clause-moments g c = rw (← c.self.view_is)
    (λ entry written. appended_stands g.D.Disk.told.fault_count
    c.self.inside.log c.write.new.log (c.args.today, c.in-Some.settlement.command) entry g.D.Disk.told.honest
    g.D.Disk.told.moment g.D.Disk.told.left_since _ _ (Ok c.in-Ok.field-0) refl c.in-Ok.ensures.outcome
    c.in-Ok.ensures.moments written)

pub returns-in-Err-clause-asked : goal.returns-in-Err-clause-asked
returns-in-Err-clause-asked g c = rw (c.stopped_by.ensures, ← c.self.view_is) (λ later front.
    let is : settled_by c.args.account c.args.key c.ask-answer.result ≡ Some c.in-Some.settlement.command
    = chosen_command (machine_of c.args.self.now) c.args.today
    (settled_by c.args.account c.args.key c.ask-answer.result) c.in-Some.settlement
    (c.in-Some.ensures (machine_of c.args.self.now) c.args.today c.args.account c.args.key
    c.requires.ready) in
    let order = order_asked (machine_of c.args.self.now) c.args.account c.args.key c.args.order.now
    c.requires.ordered in
    record {
      running = rw (← c.self.view_is) at c.requires.running;
      order = c.args.order.now;
      ordered = rw (← c.self.view_is) at c.requires.ordered;
      answer = c.ask-answer.result;
      heard = record {
        noted = c.ask-answer.ensures.asked;
        heard = c.ask-answer.ensures.said;
        canceled = c.ask-answer.ensures.canceled;
        same = c.ask-answer.ensures.same;
        cause = c.ask-answer.ensures.cause;
      };
      own = rw order (own_noted c.self.inside.own c.note.new.self c.args.account c.args.key c.note.ensures);
      settled = rw is (failed_writes g.D.Disk.told.fault_count _ _
          (c.args.today, c.in-Some.settlement.command)
          c.in-Err.fault c.in-Err.ensures.outcome
          (c.pop_front.ensures.rest ∙ ap (λ before. drop 1 before) front));
      ready = fault_ready c.in-Err.fault;
    })

pub returns-in-Err-clause-moments : goal.returns-in-Err-clause-moments
returns-in-Err-clause-moments g c = rw (← c.self.view_is)
    (λ entry written. appended_stands g.D.Disk.told.fault_count
    c.self.inside.log c.write.new.log (c.args.today, c.in-Some.settlement.command) entry g.D.Disk.told.honest
    g.D.Disk.told.moment g.D.Disk.told.left_since _ _ (Err c.in-Err.fault) refl c.in-Err.ensures.outcome
    c.in-Err.ensures.moments written)
