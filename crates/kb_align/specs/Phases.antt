-- When the phases of a plan start: the first one on its anchor, each next one where the one before has lasted
-- its span.
use Rattle.std.specs.Prelude.{ℕ, ◌≡◌, nat_le, List, [], ◌∷◌, Option, Some, None, option_and_then}
use Rattle.std.specs.Prelude.{if◌then◌else◌, refl}
use Rattle.std.specs.List.{filter_map, enumerate_from, last_or}
use Rattle.kb_days.specs.Calendar.{month_of, day_of_month, month_after, month_start, month_length}
use Rattle.kb_days.specs.Dates.{january, february, march, april, april_2025}
use Rattle.kb_days.specs.Adding.{add_span, reached}
use Rattle.kb_days.specs.declared.span.Span.{Span}
use Rattle.kb_align.specs.declared.phases.PhaseAt.{PhaseAt}
use Rattle.kb_days.specs.declared.span.Span.TheVariants.{Days, Months, Years, Unlimited}

-- the day on which a span from a day on is over, if it is reached
abbrev pub over : Span → ℕ → Option ℕ
over span day = option_and_then reached (add_span day span)

-- the starts of some phases of these spans, the first of which starts on a day, if it is reached
abbrev pub starts_from : Option ℕ → List Span → List (Option ℕ)
starts_from start [] = []
starts_from start (span ∷ later) = start ∷ starts_from (option_and_then (over span) start) later

-- the starts of phases of these spans, counted from an anchor
unfoldable pub phase_starts : ℕ → List Span → List (Option ℕ)
phase_starts anchor spans = starts_from (Some anchor) spans

-- 30 days, a month and a year from 31 January 2024 on: 1 March, 1 April, 1 April 2025
three_phases : phase_starts (january 31) (Days 30 ∷ Months 1 ∷ Years 1 ∷ Unlimited ∷ [])
    ≡ Some (january 31) ∷ Some (march 1) ∷ Some (april 1) ∷ Some (april_2025 1) ∷ []
unfolding phase_starts day_of_month month_of month_after month_start month_length
three_phases = refl

-- months go on from a day that was cut: 31 January, 29 February, 29 March
a_cut_day : phase_starts (january 31) (Months 1 ∷ Months 1 ∷ Unlimited ∷ [])
    ≡ Some (january 31) ∷ Some (february 29) ∷ Some (march 29) ∷ []
unfolding phase_starts day_of_month month_of month_after month_start month_length
a_cut_day = refl

-- a phase behind an unlimited one is never reached, and neither is one after it
never_reached : phase_starts (january 31) (Unlimited ∷ Days 30 ∷ Days 30 ∷ [])
    ≡ Some (january 31) ∷ None ∷ None ∷ []
unfolding phase_starts
never_reached = refl

-- a phase with its place from 0, if it starts on or before a day
abbrev pub begun_by : ℕ → ℕ × Option ℕ → Option PhaseAt
begun_by day (place, None) = None
begun_by day (place, Some start) =
    if nat_le start day then Some (record { index = place; start = start }) else None

-- the phase that governs a day, with its place and start: the last one that starts on or before the day
unfoldable pub phase_on : ℕ → List Span → ℕ → Option PhaseAt
phase_on anchor spans day =
    last_or None (filter_map (begun_by day) (enumerate_from 0 (phase_starts anchor spans)))

-- of phases from 31 January, 1 March and 1 April 2024 on, the second governs 31 March
in_the_second_phase : phase_on (january 31) (Days 30 ∷ Months 1 ∷ Unlimited ∷ []) (march 31)
    ≡ Some (record { index = 1; start = march 1 })
unfolding phase_on phase_starts day_of_month month_of month_after month_start month_length
in_the_second_phase = refl

-- and the third governs the day on which it starts
on_its_start : phase_on (january 31) (Days 30 ∷ Months 1 ∷ Unlimited ∷ []) (april 1)
    ≡ Some (record { index = 2; start = april 1 })
unfolding phase_on phase_starts day_of_month month_of month_after month_start month_length
on_its_start = refl

-- none governs a day before the anchor
before_the_anchor : phase_on (january 31) (Days 30 ∷ Unlimited ∷ []) (january 30) ≡ None
unfolding phase_on phase_starts
before_the_anchor = refl
