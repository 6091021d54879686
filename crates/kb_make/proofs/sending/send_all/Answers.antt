use Rattle.std.proofs.Common.{◌≡◌, ◌≤◌, suc, List, length, arith, refl, ap, subst}
use Rattle.kb_codec.specs.Entries.{Entry}
use Rattle.kb_lane.specs.Lanes.{machine_of}
use Rattle.kb_make.specs.Private.Sending.{Completes}
use Rattle.kb_make.proofs.Sent.{all_sent, counted, none_sent, one_sent, seeded_callers}
use Rattle.kb_make.proofs.sending.send_all.Goals as goal

pub sent-init : goal.sent-init
sent-init c = record {
  idle = c.requires.idle;
  few = omega (arith, c.requires.few);
  completes = none_sent (machine_of c.args.lane.now) c.args.generator;
}

pub send-requires : goal.send-requires
send-requires c = record {
  callers = seeded_callers c.in-Some.entry.1 c.in-Some.ensures.kind;
  idle = c.sent.invariant.idle;
}

pub overflow_add-refused : goal.overflow_add-refused
overflow_add-refused c =
    let one : c.from.result ≤ 1 = counted c.in_ok-send.field-0 c.from.result c.from.ensures in
    let more : length c.sent.generator ≡ suc (length c.next.new.self) = ap length c.in-Some.ensures.given in
    omega (arith, one, more, c.sent.invariant.few)

pub sent-preserved : goal.sent-preserved
sent-preserved c =
    let one : c.from.result ≤ 1 = counted c.in_ok-send.field-0 c.from.result c.from.ensures in
    let more : length c.sent.generator ≡ suc (length c.next.new.self) = ap length c.in-Some.ensures.given in
    let P : List Entry → Type 0 = λ left.
    Completes (machine_of c.args.lane.now) c.args.generator (machine_of c.sent.lane) left c.sent.refused in
    record {
      idle = c.in_ok-send.ensures.idle;
      few = omega (arith, one, more, c.sent.invariant.few);
      completes = one_sent (machine_of c.args.lane.now) (machine_of c.sent.lane) (machine_of c.send.new.lane)
          c.args.generator c.next.new.self c.in-Some.entry c.sent.refused c.from.result c.in_ok-send.field-0
          (subst P c.in-Some.ensures.given c.sent.invariant.completes) c.in_ok-send.ensures.done
          c.in_ok-send.ensures.refused c.from.ensures;
    }

pub returns : goal.returns
returns c =
    let over = c.in_default.ensures.over refl in
    let P : List Entry → Type 0 = λ left.
    Completes (machine_of c.args.lane.now) c.args.generator (machine_of c.sent.lane) left c.sent.refused in
    all_sent (machine_of c.args.lane.now) (machine_of c.sent.lane) c.args.generator c.sent.refused
    (subst P over.0 c.sent.invariant.completes)
