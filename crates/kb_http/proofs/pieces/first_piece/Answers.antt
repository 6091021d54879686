use Rattle.std.proofs.Common.{◌+◌}
use Rattle.std.proofs.lemmas.List.{take_rest}
use Rattle.kb_http.proofs.Fronts.{onto_front-nil, read_on, read_first, read_all}
use Rattle.kb_http.proofs.pieces.first_piece.Goals as goal

pub loop-at-init : goal.loop-at-init
loop-at-init c = onto_front-nil c.args.separator c.args.bytes.now

pub loop-at-preserved : goal.loop-at-preserved
loop-at-preserved c = read_on _ _ _ c.loop-at-test.true c.if-byte-separator.false c.loop-at.invariant

pub returns-then-byte-separator-clause-split : goal.returns-then-byte-separator-clause-split
returns-then-byte-separator-clause-split c =
    rw (take_rest c.args.bytes.now (c.loop-at.at + 1))
    (read_first _ _ _ c.loop-at-test.true c.if-byte-separator.true c.loop-at.invariant)

pub returns-clause-split : goal.returns-clause-split
returns-clause-split c = read_all _ _ _ c.loop-at-test.false c.loop-at.invariant
