-- Between two cuts that no other one parts nothing happens.
use Rattle.std.proofs.Common.{◌≡◌, inl, inr, ℕ, ◌<◌, ◌≤◌, Bool, true, false, List, get_or, Option, Some, None}
use Rattle.std.proofs.Common.{IfSome, All, Contains, refl, sym, subst, ◌∙◌, arith}
use Rattle.std.proofs.lemmas.Bool.{cases_lt, lt-ltb, le-ltb}
use Rattle.kb_days.specs.Calendar.{first_day, end_of_days}
use Rattle.kb_catalog.specs.declared.version.Version.{Version}
use Rattle.kb_align.specs.Phases.{phase_starts}
use Rattle.kb_timeline.specs.declared.entry.Entry.{Entry}
use Rattle.kb_due.specs.Governing.{Choice, choice_of, spans_of}
use Rattle.kb_events.specs.Private.Quiet.{IsQuiet, AreEntriesQuiet, AreStartsQuiet, IsPlanQuiet}
use Rattle.kb_events.specs.Private.Ends.{is_before}
use Rattle.kb_events.specs.Private.Cuts.{HasDay, HasStarts, HasPhases, HasEntry, HasEntryDays, IsGap}

-- no cut lies between the two days; they lie among the days that may be charged
module _ (cuts : List ℕ) (from to : ℕ) (gap : IsGap cuts from to) (low : first_day ≤ from)
    (high : to ≤ end_of_days) where
  -- a day that is among the cuts doesn't lie between
  pub HasDay-quiet : (day on : ℕ) → on < to → HasDay cuts day → IsQuiet from on day
  HasDay-quiet day on before has later up_to =
      gap day (has (omega (arith, low, later)) (omega (arith, high, before, up_to))) later
      (omega (arith, before, up_to))

  pub IfSome-quiet : (start : Option ℕ) (on : ℕ) → on < to → IfSome start (HasDay cuts)
      → IfSome start (IsQuiet from on)
  IfSome-quiet None on before has = tt
  IfSome-quiet (Some start) on before has = HasDay-quiet start on before has

  -- no entry begins between
  pub HasEntries-quiet : (catalog : List Version) (entries : List Entry) (on : ℕ) → on < to
      → All (HasEntry cuts catalog) entries → AreEntriesQuiet from on entries
  HasEntries-quiet catalog entries on before has =
      λ k d h. HasDay-quiet (get_or entries k d).day on before (has k d h).0

  pub HasEntryDays-quiet : (entries : List Entry) (on : ℕ) → on < to → HasEntryDays cuts entries
      → AreEntriesQuiet from on entries
  HasEntryDays-quiet entries on before has =
      λ k d h. HasDay-quiet (get_or entries k d).day on before (has k d h)

  -- and no phase that an entry counts
  pub HasPhases-quiet : (catalog : List Version) (entry : Entry) (on : ℕ) → on < to
      → HasPhases cuts catalog entry → IsPlanQuiet catalog from on entry
  HasPhases-quiet catalog entry on before has = by_choice (choice_of catalog entry.plan) has
    where
      by_choice : (choice : Option Choice)
          → IfSome choice (λ (choice : Choice). HasStarts cuts
          (phase_starts entry.anchor (spans_of choice.plan)))
          → IfSome choice (λ (choice : Choice). AreStartsQuiet from on
          (phase_starts entry.anchor (spans_of choice.plan)))
      by_choice None has = tt
      by_choice (Some choice) has =
          λ k d h. IfSome-quiet (get_or (phase_starts entry.anchor (spans_of choice.plan)) k d) on before
          (has k d h)

  -- an end that is among the cuts has come on all days between or on none
  pub is_before-quiet : (end : Option ℕ) (on : ℕ) → from ≤ on → on < to → IfSome end (HasDay cuts)
      → is_before end on ≡ is_before end from
  is_before-quiet None on after before has = refl
  is_before-quiet (Some end) on after before has =
      elim (cases_lt from end) [
        | inl ahead ↦
            elim (cases_lt on end) [
              | inl still ↦ lt-ltb on end still ∙ sym (lt-ltb from end ahead)
              | inr over ↦ absurd (HasDay-quiet end on before has ahead over)
            ]
        | inr behind ↦ le-ltb on end (omega (arith, behind, after)) ∙ sym (le-ltb from end behind)
      ]

  -- a test that only such days pass fails between
  pub turns-quiet : (test : ℕ → Bool) (days : List ℕ) → ((day : ℕ) → test day ≡ true → Contains days day)
      → All (HasDay cuts) days
      → (day : ℕ) → from < day → day < to → test day ≡ false
  turns-quiet test days only has day later before = by_test (test day) refl
    where
      by_test : (is : Bool) → test day ≡ is → test day ≡ false
      by_test false fails = fails
      by_test true passes =
          let at = only day passes in
          let among : HasDay cuts day = subst (HasDay cuts) at.2 (has at.0 day at.1) in
          absurd (HasDay-quiet day day before among later (omega arith))
