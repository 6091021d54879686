use Rattle.std.proofs.Common.{sym, ◌∙◌}
use Rattle.kb_lane.proofs.Payloads.{front_payload, rest_payload, both_there}
use Rattle.kb_lane.proofs.payload.read_payload.Goals as goal

pub returns-clause-all : goal.returns-clause-all
returns-clause-all c = λ today command sound is. c.both.ensures
    ∙ both_there today command c.day_of-today.result c.in_ok-command.command
    (c.day_of-today.ensures.all today sound.0
    (front_payload today command c.args.bytes.now is ∙ sym c.split_at.ensures.front))
    (c.in_ok-command.ensures.all command sound.1
    (rest_payload today command c.args.bytes.now is ∙ sym c.split_at.ensures.back))
