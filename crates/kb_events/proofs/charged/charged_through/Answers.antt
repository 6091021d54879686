-- The last piece is the one at the last place.
use Rattle.std.proofs.Common.{option_map, sym, ap, ◌∙◌}
use Rattle.kb_due.specs.declared.cell.Piece.{Piece}
use Rattle.kb_events.proofs.LastDays.{last_or-slice_get, charged-last}
use Rattle.kb_events.proofs.charged.charged_through.Goals as goal

pub returns-in-None-clause-last : goal.returns-in-None-clause-last
returns-in-None-clause-last c =
    ap (option_map (λ (piece : Piece). piece.to)) (c.in-None.ensures.value ∙ sym
    (last_or-slice_get c.args.pieces.now))

pub returns-in-None-clause-value : goal.returns-in-None-clause-value
returns-in-None-clause-value c facts sub billed told early =
    ap (option_map (λ (piece : Piece). piece.to)) (c.in-None.ensures.value ∙ sym
    (last_or-slice_get c.args.pieces.now))
    ∙ charged-last facts sub billed c.args.pieces.now told early

pub returns-in-Some-clause-last : goal.returns-in-Some-clause-last
returns-in-Some-clause-last c =
    ap (option_map (λ (piece : Piece). piece.to)) (c.in-Some.ensures.value ∙ sym
    (last_or-slice_get c.args.pieces.now))

pub returns-in-Some-clause-value : goal.returns-in-Some-clause-value
returns-in-Some-clause-value c facts sub billed told early =
    ap (option_map (λ (piece : Piece). piece.to)) (c.in-Some.ensures.value ∙ sym
    (last_or-slice_get c.args.pieces.now))
    ∙ charged-last facts sub billed c.args.pieces.now told early
