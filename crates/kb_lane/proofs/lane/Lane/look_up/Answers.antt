use Rattle.std.proofs.Common.{◌≡◌, [], false, deque_items, map, Some, None, refl, sym, ap, subst, ◌∙◌}
use Rattle.std.proofs.lemmas.List.{append-nil}
use Rattle.kb_book.specs.PaymentRows.{same_status}
use Rattle.kb_histories.proofs.SettledAttempts.{settlements_are_new}
use Rattle.kb_lane.specs.Asking.{asked_for, asks_in, attempt_asked}
use Rattle.kb_lane.specs.Lanes.{machine_of}
use Rattle.kb_lane.specs.LookingUp.{news}
use Rattle.kb_lane.proofs.Asking.{settles_apart}
use Rattle.kb_lane.proofs.Settling.{writes_from}
use Rattle.kb_lane.proofs.LookingUp.{open_there, news_differ, looks_looked, done_takes, others_stay}
use Rattle.kb_lane.proofs.LookingUp.{asks_stay}
use Rattle.kb_lane.proofs.Within.{past_none, within_past}
use Rattle.kb_lane.proofs.lane.Lane.look_up.Goals as goal

pub settle-requires-clause-new : goal.settle-requires-clause-new
settle-requires-clause-new g c =
    let found = open_there (attempt_asked (machine_of c.args.self.now) c.args.payment) c.requires.opened in
    let present = c.status_of-present.ensures found.0 found.1 in
    let differ = subst (λ before. same_status before c.in-Some.status ≡ false) present
    (news_differ c.status_of-present.result c.look_up-answer.result c.in-Some.status c.in-Some.ensures) in
    let new = rw (← c.self.view_is) at (settlements_are_new (machine_of c.args.self.now) c.args.today
    c.args.payment.account c.args.payment.key c.in-Some.status found.0 found.1 found.2 differ) in
    new

pub settle-requires-clause-free : goal.settle-requires-clause-free
settle-requires-clause-free g c =
    let beside = rw (← c.self.view_is) at c.requires.beside in
    settles_apart c.args.payment.account c.args.payment.key (asks_in (deque_items c.self.inside.outbox))
    c.in-Some.status (λ k d inside same. beside k d inside (sym same))

pub returns-in-Some-clause-looked : goal.returns-in-Some-clause-looked
returns-in-Some-clause-looked g c =
    let found = open_there (attempt_asked (machine_of c.args.self.now) c.args.payment) c.requires.opened in
    let present = c.status_of-present.ensures found.0 found.1 in
    let told : news found.0.status c.look_up-answer.result ≡ Some c.in-Some.status
    = ap (λ before. news before c.look_up-answer.result) (sym present) ∙ sym c.in-Some.ensures in
    rw (← c.self.view_is) (looks_looked g.D.Disk.told.fault_count g.G.Gateway.told
    c.args.today _ c.settle.new.self c.args.payment c.settle.result (record {
      running = sym c.is_stopped.ensures ∙ c.if-is_stopped.false;
      order = c.order_of-order.result;
      ordered = rw (← c.self.view_is) at c.order_of-order.ensures;
      attempt = found.0;
      there = subst (λ lane. attempt_asked (machine_of lane) c.args.payment ≡ Some found.0)
          (sym c.self.view_is)
          found.1;
      answer = c.look_up-answer.result;
      heard = rw c.settle.ensures.gateway (record {
        silent = c.look_up-answer.ensures.asked;
        heard = c.look_up-answer.ensures.said;
        unseen = c.look_up-answer.ensures.unseen;
        same = c.look_up-answer.ensures.same;
        cause = c.look_up-answer.ensures.cause;
      });
      own = c.settle.ensures.own;
      settled = rw told (writes_from g.D.Disk.told.fault_count _ _ c.settle.new.self _ c.settle.result refl
          refl
          c.settle.ensures.writes);
    }))

pub returns-in-Some-clause-others : goal.returns-in-Some-clause-others
returns-in-Some-clause-others g c =
    let found = open_there (attempt_asked (machine_of c.args.self.now) c.args.payment) c.requires.opened in
    let present = c.status_of-present.ensures found.0 found.1 in
    let differ = subst (λ before. same_status before c.in-Some.status ≡ false) present
    (news_differ c.status_of-present.result c.look_up-answer.result c.in-Some.status c.in-Some.ensures) in
    let new = rw (← c.self.view_is) at (settlements_are_new (machine_of c.args.self.now) c.args.today
    c.args.payment.account c.args.payment.key c.in-Some.status found.0 found.1 found.2 differ) in
    rw (← c.self.view_is) (λ done one other. others_stay (record {
      log = c.self.inside.log;
      outbox = deque_items c.self.inside.outbox;
      gateway = c.look_up-answer.new.self;
      own = map asked_for c.self.inside.own;
    }) c.settle.new.self c.args.today c.args.payment
    c.in-Some.status (done_takes g.D.Disk.told.fault_count _ c.settle.new.self _ c.settle.result
    c.settle.ensures.writes
    done) new one other)

pub returns-in-Some-clause-asks : goal.returns-in-Some-clause-asks
returns-in-Some-clause-asks g c = rw (← c.self.view_is) (λ done. asks_stay (record {
  log = c.self.inside.log;
  outbox = deque_items c.self.inside.outbox;
  gateway = c.look_up-answer.new.self;
  own = map asked_for c.self.inside.own;
}) c.settle.new.self c.args.today
    c.args.payment c.in-Some.status
    (done_takes g.D.Disk.told.fault_count _ c.settle.new.self _ c.settle.result
    c.settle.ensures.writes done))

pub returns-in-None-clause-looked : goal.returns-in-None-clause-looked
returns-in-None-clause-looked g c =
    let found = open_there (attempt_asked (machine_of c.args.self.now) c.args.payment) c.requires.opened in
    let present = c.status_of-present.ensures found.0 found.1 in
    let told : news found.0.status c.look_up-answer.result ≡ None
    = ap (λ before. news before c.look_up-answer.result) (sym present) ∙ sym c.in-None.ensures in
    rw (← c.self.view_is) (record {
      running = sym c.is_stopped.ensures ∙ c.if-is_stopped.false;
      order = c.order_of-order.result;
      ordered = rw (← c.self.view_is) at c.order_of-order.ensures;
      attempt = found.0;
      there = subst (λ lane. attempt_asked (machine_of lane) c.args.payment ≡ Some found.0)
          (sym c.self.view_is)
          found.1;
      answer = c.look_up-answer.result;
      heard = (record {
        silent = c.look_up-answer.ensures.asked;
        heard = c.look_up-answer.ensures.said;
        unseen = c.look_up-answer.ensures.unseen;
        same = c.look_up-answer.ensures.same;
        cause = c.look_up-answer.ensures.cause;
      });
      own = refl;
      settled = rw told (refl, (refl, refl));
    })

pub returns-in-Some-clause-past : goal.returns-in-Some-clause-past
returns-in-Some-clause-past g c = rw (← c.self.view_is) c.settle.ensures.past

pub returns-in-Some-clause-within : goal.returns-in-Some-clause-within
returns-in-Some-clause-within g c = rw (← c.self.view_is) c.settle.ensures.within

pub returns-in-Some-clause-further : goal.returns-in-Some-clause-further
returns-in-Some-clause-further g c = rw (← c.self.view_is) c.settle.ensures.further

pub returns-in-Some-clause-runs : goal.returns-in-Some-clause-runs
returns-in-Some-clause-runs g c = c.settle.ensures.runs

pub returns-in-None-clause-past : goal.returns-in-None-clause-past
returns-in-None-clause-past g c = rw (← c.self.view_is)
    (λ done. past_none g.D.Disk.told.honest g.D.Disk.told.moment g.D.Disk.told.left_since c.self.inside.log
    c.self.inside.log refl)

pub returns-in-None-clause-within : goal.returns-in-None-clause-within
returns-in-None-clause-within g c = rw (← c.self.view_is)
    (within_past g.D.Disk.told.honest g.D.Disk.told.moment g.D.Disk.told.left_since
    c.self.inside.log c.self.inside.log
    (past_none g.D.Disk.told.honest g.D.Disk.told.moment g.D.Disk.told.left_since
    c.self.inside.log
    c.self.inside.log refl))

pub returns-in-None-clause-further : goal.returns-in-None-clause-further
returns-in-None-clause-further g c = rw (← c.self.view_is) ([], sym (append-nil c.self.inside.log.history))

pub returns-in-None-clause-runs : goal.returns-in-None-clause-runs
returns-in-None-clause-runs g c = λ done. sym c.is_stopped.ensures ∙ c.if-is_stopped.false
