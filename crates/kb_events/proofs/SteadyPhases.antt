-- Between two days on which no phase starts, one phase governs.
use Rattle.std.proofs.Common.{◌≡◌, ℕ, ◌+◌, ◌≤◌, List, [], ◌∷◌, Option, Some, None, IfSome, refl, ap, ◌∙◌}
use Rattle.std.specs.List.{filter_map, enumerate_from, last_or, cons_option}
use Rattle.std.proofs.lemmas.List.Elements.{All-head, All-tail}
use Rattle.kb_days.specs.declared.span.Span.{Span}
use Rattle.kb_align.specs.declared.phases.PhaseAt.{PhaseAt}
use Rattle.kb_align.specs.Phases.{phase_starts, begun_by, phase_on}
use Rattle.kb_events.specs.Private.Quiet.{IsQuiet, AreStartsQuiet}
use Rattle.kb_events.proofs.SteadyEntries.{nat_le-steady}

-- a phase that doesn't start between two days has begun by the later one exactly if it has by the earlier one
begun_by-steady : (d e place : ℕ) (start : Option ℕ) → d ≤ e → IfSome start (IsQuiet d e)
    → begun_by e (place, start) ≡ begun_by d (place, start)
begun_by-steady d e place None h quiet = refl
begun_by-steady d e place (Some start) h quiet = rw (nat_le-steady start d e h quiet) refl

-- so the same phases have begun by both
filter_map-steady : (d e place : ℕ) (starts : List (Option ℕ)) → d ≤ e → AreStartsQuiet d e starts
    → filter_map (begun_by e) (enumerate_from place starts)
    ≡ filter_map (begun_by d) (enumerate_from place starts)
filter_map-steady d e place [] h quiet = refl
filter_map-steady d e place (start ∷ later) h quiet =
    let here = begun_by-steady d e place start h (All-head (λ (start : Option ℕ). IfSome start (IsQuiet d e))
    start later quiet) in
    let rest = filter_map-steady d e (place + 1) later h
    (All-tail (λ (start : Option ℕ). IfSome start (IsQuiet d e)) start later quiet) in
    ap (λ (found : Option PhaseAt). cons_option found (filter_map (begun_by e)
    (enumerate_from (place + 1) later))) here
    ∙ ap (cons_option (begun_by d (place, start))) rest

-- where no phase starts after a day and up to another, the same one governs both
pub phase_on-steady : (anchor : ℕ) (spans : List Span) (d e : ℕ) → d ≤ e
    → AreStartsQuiet d e (phase_starts anchor spans)
    → phase_on anchor spans e ≡ phase_on anchor spans d
unfolding phase_on
phase_on-steady anchor spans d e h quiet =
    ap (last_or None) (filter_map-steady d e 0 (phase_starts anchor spans) h quiet)
