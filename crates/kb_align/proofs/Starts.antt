-- A walk over the spans of phases comes by their starts, and by the last one that has begun.
use Rattle.std.proofs.Common.{◌≡◌, ℕ, suc, ◌+◌, ◌<◌, ◌≤◌, List, [], ◌∷◌, length, drop, get_or, Option, Some}
use Rattle.std.proofs.Common.{option_and_then, refl, sym, ap, ◌∙◌, arith}
use Rattle.std.specs.List.{filter_map, enumerate_from, last_or, cons_option}
use Rattle.std.proofs.Math.Seq.{drop-cons}
use Rattle.std.proofs.lemmas.Bool.{le-leb}
use Rattle.std.proofs.lemmas.List.{drop_all}
use Rattle.kb_days.specs.declared.span.Span.{Span}
use Rattle.kb_align.specs.declared.phases.PhaseAt.{PhaseAt}
use Rattle.kb_align.specs.Phases.{over, starts_from, phase_starts, begun_by, phase_on}

-- the starts that are left begin with the next phase's
pub starts_from-cons : (start : Option ℕ) (span : Span) (later : List Span)
    → starts_from start (span ∷ later) ≡ start ∷ starts_from (option_and_then (over span) start) later
starts_from-cons start span later = refl

pub ruleset walks = (starts_from-cons)

-- the spans that are left begin with the one at their place
drop-span : (spans : List Span) (place : ℕ) (span : Span) → place < length spans
    → span ≡ get_or spans place span
    → drop place spans ≡ span ∷ drop (place + 1) spans
drop-span spans place span h e =
    let one : suc place ≡ place + 1 = omega arith in
    drop-cons spans place span h ∙ ap (λ first. first ∷ drop (suc place) spans) (sym e)
    ∙ ap (λ at. span ∷ drop at spans) one

-- the last phase that has begun by a day: one that was found, or a later one of those that start from here on
abbrev pub last_begun : ℕ → Option PhaseAt → ℕ → Option ℕ → List Span → Option PhaseAt
last_begun day found place start spans =
    last_or found (filter_map (begun_by day) (enumerate_from place (starts_from start spans)))

-- where the first phase is found at once, the last one is the phase of the day
pub last_begun-first : (anchor : ℕ) (spans : List Span) (day : ℕ) → 0 < length spans → anchor ≤ day
    → last_begun day (Some (record { index = 0; start = anchor })) 0 (Some anchor) spans
    ≡ phase_on anchor spans day
unfolding phase_on phase_starts
last_begun-first anchor [] day some begun = absurd (omega arith)
last_begun-first anchor (span ∷ later) day some begun = rw (le-leb anchor day begun) refl

-- a phase is found from then on, if it has begun
pub last_begun-next : (day : ℕ) (found : Option PhaseAt) (place : ℕ) (start : Option ℕ) (spans : List Span)
    (span : Span) (here : Option PhaseAt)
    → place < length spans → span ≡ get_or spans place span → here ≡ begun_by day (place, start)
    → last_begun day found place start (drop place spans)
    ≡ last_or found (cons_option here (filter_map (begun_by day)
    (enumerate_from (place + 1) (starts_from (option_and_then (over span) start) (drop (place + 1) spans)))))
last_begun-next day found place start spans span here h at is =
    let later =
    filter_map (begun_by day)
    (enumerate_from (place + 1) (starts_from (option_and_then (over span) start) (drop (place + 1) spans))) in
    ap (last_begun day found place start) (drop-span spans place span h at)
    ∙ ap (λ phase. last_or found (cons_option phase later)) (sym is)

-- where no phase is left, it is the one that was found
pub last_begun-all : (day : ℕ) (found : Option PhaseAt) (place : ℕ) (start : Option ℕ) (spans : List Span)
    → length spans ≤ place
    → last_begun day found place start (drop place spans) ≡ found
last_begun-all day found place start spans h = ap (last_begun day found place start) (drop_all place spans h)
