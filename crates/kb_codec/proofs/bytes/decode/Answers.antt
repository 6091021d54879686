use Rattle.std.proofs.Common.{arith}
use Rattle.kb_codec.proofs.CommandLaws.{found_spelled, found_sound, found_all}
use Rattle.kb_codec.proofs.bytes.decode.Goals as goal

pub returns-clause-spelled : goal.returns-clause-spelled
returns-clause-spelled c = found_spelled c.args.bytes.now c.read_whole.result
    (λ i. omega (arith, c.type_inv.bytes i)) c.read_whole.ensures

pub returns-clause-sound : goal.returns-clause-sound
returns-clause-sound c = found_sound c.args.bytes.now c.read_whole.result
    (λ i. omega (arith, c.type_inv.bytes i)) c.read_whole.ensures

pub returns-clause-all : goal.returns-clause-all
returns-clause-all c = found_all c.args.bytes.now c.read_whole.result c.read_whole.ensures
