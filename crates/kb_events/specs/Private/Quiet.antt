-- Days on which nothing happens.
use Rattle.std.specs.Prelude.{ℕ, ◌<◌, ◌≤◌, List, All, slice_get, Option, IfSome}
use Rattle.kb_catalog.specs.declared.version.Version.{Version}
use Rattle.kb_align.specs.Phases.{phase_starts}
use Rattle.kb_timeline.specs.declared.entry.Entry.{Entry}
use Rattle.kb_timeline.specs.EntryDays.{entry_on}
use Rattle.kb_due.specs.Governing.{Choice, choice_of, spans_of}

-- a day doesn't lie after one day and up to another
abbrev pub IsQuiet : ℕ → ℕ → ℕ → Type 0
IsQuiet d e day = d < day → day ≤ e → ⊥

-- no entry is dated there
abbrev pub AreEntriesQuiet : ℕ → ℕ → List Entry → Type 0
AreEntriesQuiet d e entries = All (λ (entry : Entry). IsQuiet d e entry.day) entries

-- the start isn't dated there
abbrev pub IsStartQuiet : ℕ → ℕ → List Entry → Type 0
IsStartQuiet d e entries = IfSome (slice_get entries 0) (λ (start : Entry). IsQuiet d e start.day)

-- a cancellation isn't dated there
abbrev pub IsCancelQuiet : ℕ → ℕ → Option ℕ → Type 0
IsCancelQuiet d e cancel = IfSome cancel (IsQuiet d e)

-- no phase that is reached starts there
abbrev pub AreStartsQuiet : ℕ → ℕ → List (Option ℕ) → Type 0
AreStartsQuiet d e starts = All (λ (start : Option ℕ). IfSome start (IsQuiet d e)) starts

-- no phase of the plan that an entry chose, counted from its anchor, starts there
abbrev pub IsPlanQuiet : List Version → ℕ → ℕ → Entry → Type 0
IsPlanQuiet catalog d e entry =
    IfSome (choice_of catalog entry.plan) (λ (choice : Choice). AreStartsQuiet d e
    (phase_starts entry.anchor (spans_of choice.plan)))

-- none of the plan that the entry governing the first of the two days chose
abbrev pub ArePhasesQuiet : List Version → List Entry → ℕ → ℕ → Type 0
ArePhasesQuiet catalog entries d e = IfSome (entry_on entries d) (IsPlanQuiet catalog d e)
