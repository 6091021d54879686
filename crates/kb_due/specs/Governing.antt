-- What governs a day of a subscription: an entry, its plan, and a phase of that.
use Rattle.std.specs.Prelude.{ℕ, ◌≤◌, List, map, slice_get, Option, Some, None, option_map, option_and_then}
use Rattle.kb_days.specs.Calendar.{first_day}
use Rattle.kb_days.specs.declared.span.Span.{Span}
use Rattle.kb_catalog.specs.declared.version.Version.{Version}
use Rattle.kb_catalog.specs.declared.plan.Plan.{Plan}
use Rattle.kb_catalog.specs.declared.phase.Phase.{Phase}
use Rattle.kb_catalog.specs.declared.price_list.PriceList.{PriceList}
use Rattle.kb_align.specs.declared.phases.PhaseAt.{PhaseAt}
use Rattle.kb_align.specs.Phases.{phase_on}
use Rattle.kb_timeline.specs.declared.entry.Entry.{Entry}
use Rattle.kb_timeline.specs.declared.entry.PlanRef.{PlanRef}
use Rattle.kb_timeline.specs.EntryDays.{entry_on}

-- a plan that an entry refers to, with its version and the list by which it was chosen
pub record Choice : Type 0 where
  pub version : Version
  pub list : PriceList
  pub plan : Plan

-- the list and the plan at their places in a version
abbrev pub choice_in : PlanRef → Version → Option Choice
choice_in place version = both (slice_get version.lists place.list) (slice_get version.plans place.plan)
  where
    both : Option PriceList → Option Plan → Option Choice
    both None plan = None
    both (Some list) None = None
    both (Some list) (Some plan) = Some (record { version = version; list = list; plan = plan })

-- what a reference names
abbrev pub choice_of : List Version → PlanRef → Option Choice
choice_of catalog place = option_and_then (choice_in place) (slice_get catalog place.version)

-- how long the phases of a plan last
abbrev pub spans_of : Plan → List Span
spans_of plan = map (λ (phase : Phase). phase.span) plan.phases

-- an entry, what it chose, and the phase that governs the day, with its place and start
pub record Governing : Type 0 where
  pub entry : Entry
  pub choice : Choice
  pub place : ℕ
  pub start : ℕ
  pub phase : Phase

-- a phase governs by what an entry chose
abbrev pub governing_phase : Entry → Choice → PhaseAt → Option Governing
governing_phase entry choice at = option_map with_phase (slice_get choice.plan.phases at.index)
  where
    with_phase : Phase → Governing
    with_phase phase = record {
      entry = entry;
      choice = choice;
      place = at.index;
      start = at.start;
      phase = phase;
    }

-- what governs a day by what an entry chose
abbrev pub governing_choice : Entry → ℕ → Choice → Option Governing
governing_choice entry day choice =
    option_and_then (governing_phase entry choice) (phase_on entry.anchor (spans_of choice.plan) day)

-- what governs a day by an entry
abbrev pub governing_by : List Version → Entry → ℕ → Option Governing
governing_by catalog entry day = option_and_then (governing_choice entry day) (choice_of catalog entry.plan)

-- what governs a day of a subscription with these entries: none before the start
abbrev pub governing_on : List Version → List Entry → ℕ → Option Governing
governing_on catalog entries day =
    option_and_then (λ entry. governing_by catalog entry day) (entry_on entries day)

-- the phase and the entry that govern a day begin on or before it, and the phase no earlier than the days
-- that commands name
abbrev pub IsBegun : Governing → ℕ → Type 0
IsBegun governing day = (first_day ≤ governing.start) × (governing.start ≤ day) × (governing.entry.day ≤ day)
