use Rattle.std.proofs.Common.{◌≡◌, take, drop}
use Rattle.kb_base.specs.Lines.{pieces}
use Rattle.kb_http.proofs.Fronts.{onto_front}
use Rattle.kb_http.proofs.pieces.first_piece.Given as goal

abbrev pub invariant-loop-at : goal.invariant-loop-at
invariant-loop-at l =
    pieces l.separator l.bytes ≡ onto_front (take l.at l.bytes) (pieces l.separator (drop l.at l.bytes))
