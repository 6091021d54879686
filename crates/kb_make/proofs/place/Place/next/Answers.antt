use Rattle.std.proofs.Common.{◌≤◌, refl, arith}
use Rattle.kb_make.proofs.Sendings.{unsent-over}
use Rattle.kb_make.proofs.place.Place.next.Goals as goal

pub returns-in-None-3-clause-over : goal.returns-in-None-3-clause-over
returns-in-None-3-clause-over c is =
    let same = c.in-None.ensures.unchanged refl in
    let months : c.args.self.now.months_left ≤ 0 = rw same at c.if-self-gt0.false in
    let accounts : c.args.self.now.accounts_left ≤ 0 = rw same at c.if-self-gt0-2.false in
    unsent-over c.args.self.now (c.in-None.ensures.over refl) (omega arith) (omega arith)
