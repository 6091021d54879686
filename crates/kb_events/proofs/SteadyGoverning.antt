-- Between two days on which no entry is dated and no phase starts, one entry and one phase govern.
use Rattle.std.proofs.Common.{◌≡◌, ℕ, ◌≤◌, List, Option, Some, None, IfSome, option_and_then, refl, ap, ◌∙◌}
use Rattle.kb_catalog.specs.declared.version.Version.{Version}
use Rattle.kb_align.specs.Phases.{phase_starts}
use Rattle.kb_timeline.specs.declared.entry.Entry.{Entry}
use Rattle.kb_timeline.specs.EntryDays.{entry_on}
use Rattle.kb_due.specs.Governing.{Choice, choice_of, spans_of, governing_phase, governing_choice}
use Rattle.kb_due.specs.Governing.{governing_by, governing_on}
use Rattle.kb_events.specs.Private.Quiet.{AreEntriesQuiet, AreStartsQuiet, IsPlanQuiet, ArePhasesQuiet}
use Rattle.kb_events.proofs.SteadyEntries.{entry_on-steady}
use Rattle.kb_events.proofs.SteadyPhases.{phase_on-steady}

-- by what an entry chose, if anything, the same governs both days
governing_choice-steady : (entry : Entry) (found : Option Choice) (d e : ℕ) → d ≤ e
    → IfSome found (λ (choice : Choice). AreStartsQuiet d e
    (phase_starts entry.anchor (spans_of choice.plan)))
    → option_and_then (governing_choice entry e) found ≡ option_and_then (governing_choice entry d) found
governing_choice-steady entry None d e h quiet = refl
governing_choice-steady entry (Some choice) d e h quiet =
    ap (option_and_then (governing_phase entry choice))
    (phase_on-steady entry.anchor (spans_of choice.plan) d e h quiet)

-- by an entry, where there is one, the same governs both days
governing_by-steady : (catalog : List Version) (found : Option Entry) (d e : ℕ) → d ≤ e
    → IfSome found (IsPlanQuiet catalog d e)
    → option_and_then (λ (entry : Entry). governing_by catalog entry e) found
    ≡ option_and_then (λ (entry : Entry). governing_by catalog entry d) found
governing_by-steady catalog None d e h quiet = refl
governing_by-steady catalog (Some entry) d e h quiet =
    governing_choice-steady entry (choice_of catalog entry.plan) d e h quiet

-- where no entry is dated and no phase starts after a day and up to another, the same governs both
pub governing_on-steady : (catalog : List Version) (entries : List Entry) (d e : ℕ) → d ≤ e
    → AreEntriesQuiet d e entries → ArePhasesQuiet catalog entries d e
    → governing_on catalog entries e ≡ governing_on catalog entries d
governing_on-steady catalog entries d e h dated started =
    ap (option_and_then (λ (entry : Entry). governing_by catalog entry e))
    (entry_on-steady entries d e h dated)
    ∙ governing_by-steady catalog (entry_on entries d) d e h started
