-- A number that is above the largest one after some digits is so after all.
use Rattle.std.proofs.Common.{◌<◌, length, refl, arith}
use Rattle.kb_words.proofs.Numbers.{number_of-above}
use Rattle.kb_words.proofs.number.number_of.Goals as goal

pub returns-then-next-from : goal.returns-then-next-from
returns-then-next-from c =
    let inside : c.loop-digit.digit-index < length c.args.digits.now = omega arith in
    let above = number_of-above c.args.digits.now c.loop-digit.digit-index c.args.most inside (omega arith) in
    rw above refl
