-- What is due on days on which nothing happens.
use Rattle.std.proofs.Common.{◌≡◌, ℕ, ◌<◌, ◌≤◌, Bool, true, false, nat_eq, nat_le, Option, Some, None, refl}
use Rattle.std.proofs.Common.{◌∙◌, option_and_then, arith}
use Rattle.std.proofs.lemmas.Bool.{ne_eqb, le-leb}
use Rattle.kb_days.specs.Calendar.{last_charged, end_of_days}
use Rattle.kb_timeline.specs.declared.subscription.Subscription.{Subscription}
use Rattle.kb_blocking.specs.declared.state.Flag.TheVariants.{Billing}
use Rattle.kb_due.specs.Facts.{FactsValue, chain_of}
use Rattle.kb_due.specs.Governing.{Governing, governing_on, IsBegun}
use Rattle.kb_due.specs.Life.{is_live_of}
use Rattle.kb_due.specs.Cells.{is_unbilled, cell_by, cell_on}
use Rattle.kb_due.specs.DueDays.{is_event, event_by, due_by, due_of}
use Rattle.kb_events.specs.Private.QuietDays.{IsQuietBetween}
use Rattle.kb_events.proofs.SteadyGoverning.{governing_on-steady}
use Rattle.kb_events.proofs.SteadyFlags.{is_on-steady}
use Rattle.kb_events.proofs.SteadyEvents.{event_by-steady}

module _ (facts : FactsValue) (subscription : Subscription) (sub from to : ℕ)
    (quiet : IsQuietBetween facts subscription sub from to)
    (told : to ≤ end_of_days) where
  -- what governs the first of them governs all
  pub governing_on-quiet : (day : ℕ) → from ≤ day → day < to
      → governing_on facts.catalog subscription.entries day
      ≡ governing_on facts.catalog subscription.entries from
  governing_on-quiet day after before =
      governing_on-steady facts.catalog subscription.entries from day after (quiet.steady.entries day before)
      (quiet.steady.phases day before)

  -- billing is blocked on all of them or on none
  pub is_unbilled-quiet : (day : ℕ) → from ≤ day → day < to
      → is_unbilled facts subscription sub day ≡ is_unbilled facts subscription sub from
  is_unbilled-quiet day after before =
      is_on-steady facts.blocks (chain_of subscription sub) Billing from day after
      (λ (other : ℕ) later up_to. quiet.flags other later (omega (arith, up_to, before)))

  -- no event stands on a later one
  is_event-quiet : (governing : Governing) (day : ℕ) → IsBegun governing from → from < day → day < to
      → is_event facts subscription sub governing day ≡ false
  is_event-quiet governing day begun later before =
      let entry : nat_eq governing.entry.day day ≡ false =
      ne_eqb governing.entry.day day (λ same. omega (arith, begun.2, same, later)) in
      let phase : nat_eq governing.start day ≡ false =
      ne_eqb governing.start day (λ same. omega (arith, begun.1, same, later)) in
      rw (entry, phase, quiet.flags day later before) refl

  -- the last event is the same for all
  pub event_by-quiet : (governing : Governing) (day : ℕ) → IsBegun governing from → from ≤ day → day < to
      → event_by facts subscription sub governing day ≡ event_by facts subscription sub governing from
  event_by-quiet governing day begun after before =
      event_by-steady facts subscription sub governing from day after
      (λ (other : ℕ) later up_to. is_event-quiet governing other begun later (omega (arith, up_to, before)))

  -- they may be charged
  day-told : (day : ℕ) → day < to → nat_le day last_charged ≡ true
  day-told day before = le-leb day last_charged (omega (arith, before, told))

  -- a live and unblocked one has the cell of its own period
  pub cell_on-quiet : (governing : Governing) (day : ℕ) → from ≤ day → day < to
      → governing_on facts.catalog subscription.entries from ≡ Some governing
      → is_live_of facts subscription from ≡ true → is_unbilled facts subscription sub from ≡ false
      → cell_on facts subscription sub day ≡ cell_by facts subscription day governing
  unfolding cell_on
  cell_on-quiet governing day after before governs live unblocked =
      let governs_day = governing_on-quiet day after before ∙ governs in
      let live_day = quiet.steady.life day after before ∙ live in
      let unblocked_day = is_unbilled-quiet day after before ∙ unblocked in
      rw (day-told day before, live_day, unblocked_day, governs_day) refl

  -- which is due by the last event
  pub due_of-quiet : (billed : ℕ) (governing : Governing) (day : ℕ) → IsBegun governing from → from ≤ day
      → day < to
      → governing_on facts.catalog subscription.entries from ≡ Some governing
      → is_live_of facts subscription from ≡ true → is_unbilled facts subscription sub from ≡ false
      → due_of facts subscription sub billed day
      ≡ option_and_then (due_by billed (event_by facts subscription sub governing from))
      (cell_by facts subscription day governing)
  due_of-quiet billed governing day begun after before governs live unblocked =
      let governs_day = governing_on-quiet day after before ∙ governs in
      let cell = cell_on-quiet governing day after before governs live unblocked in
      let event = event_by-quiet governing day begun after before in
      rw (governs_day, cell, event) refl

  -- where there is no cell nothing is due
  due_of-cell : (billed day : ℕ) → cell_on facts subscription sub day ≡ None
      → due_of facts subscription sub billed day ≡ None
  due_of-cell billed day none = by_governing (governing_on facts.catalog subscription.entries day)
    where
      by_governing : (governing : Option Governing)
          → option_and_then (λ (at : Governing). option_and_then
          (due_by billed (event_by facts subscription sub at day)) (cell_on facts subscription sub day))
          governing ≡ None
      by_governing None = refl
      by_governing (Some governing) = rw none refl

  -- a day that isn't live has no cell
  cell_on-dead : (day : ℕ) → day < to → is_live_of facts subscription day ≡ false
      → cell_on facts subscription sub day ≡ None
  unfolding cell_on
  cell_on-dead day before dead = rw (day-told day before, dead) refl

  -- and so has one on which billing is blocked
  cell_on-blocked : (live : Bool) (day : ℕ) → day < to → is_live_of facts subscription day ≡ live
      → is_unbilled facts subscription sub day ≡ true
      → cell_on facts subscription sub day ≡ None
  unfolding cell_on
  cell_on-blocked true day before is blocked = rw (day-told day before, is, blocked) refl
  cell_on-blocked false day before is blocked = rw (day-told day before, is) refl

  -- one that isn't live has nothing due
  pub due_of-dead : (billed day : ℕ) → from ≤ day → day < to → is_live_of facts subscription from ≡ false
      → due_of facts subscription sub billed day ≡ None
  due_of-dead billed day after before dead =
      due_of-cell billed day (cell_on-dead day before (quiet.steady.life day after before ∙ dead))

  -- and neither has one on which billing is blocked
  pub due_of-blocked : (billed day : ℕ) → from ≤ day → day < to
      → is_unbilled facts subscription sub from ≡ true → due_of facts subscription sub billed day ≡ None
  due_of-blocked billed day after before blocked =
      due_of-cell billed day (cell_on-blocked (is_live_of facts subscription day) day before refl
      (is_unbilled-quiet day after before ∙ blocked))

  -- and where nothing governs
  pub due_of-nothing : (billed day : ℕ) → from ≤ day → day < to
      → governing_on facts.catalog subscription.entries from ≡ None
      → due_of facts subscription sub billed day ≡ None
  due_of-nothing billed day after before none = rw (governing_on-quiet day after before ∙ none) refl
