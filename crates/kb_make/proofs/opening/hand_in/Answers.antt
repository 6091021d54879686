use Rattle.std.proofs.Common.{ap, ◌∙◌}
use Rattle.kb_machine.specs.Judged.{is_new}
use Rattle.kb_machine.specs.Machines.{judged}
use Rattle.kb_lane.specs.Lanes.{machine_of}
use Rattle.kb_make.specs.Makes.{Busy}
use Rattle.kb_make.proofs.Sent.{text_callers, text_works}
use Rattle.kb_make.proofs.opening.hand_in.Goals as goal

pub perform-requires : goal.perform-requires
perform-requires c =
    record { callers = text_callers c.args.command.now c.requires.text; idle = c.requires.idle }

pub returns-clause-idle : goal.returns-clause-idle
returns-clause-idle c =
    ap (λ (busy : Busy). busy.works) c.in_ok-perform.ensures.sent
    ∙ text_works c.args.today c.args.command.now c.requires.text
    (is_new (judged (machine_of c.args.lane.now) c.args.today c.args.command.now))

pub returns-clause-handed : goal.returns-clause-handed
returns-clause-handed c = ap (λ (busy : Busy). busy.machine) c.in_ok-perform.ensures.sent
