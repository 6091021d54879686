-- Days on which a subscription goes on steadily, as runs of fee cells: only the first of them may have one.
use Rattle.std.proofs.Common.{◌≡◌, ℕ, ◌+◌, ◌-◌, ◌<◌, ◌≤◌, ◌⊎◌, inl, inr, Bool, true, false, nat_eq, nat_le}
use Rattle.std.proofs.Common.{List, Option, Some, None, refl, ap, ◌∙◌, option_and_then, arith}
use Rattle.std.proofs.lemmas.Bool.{cases_lt, ne_eqb, le-leb, lt-leb}
use Rattle.kb_base.specs.Runs.{Stretch, runs}
use Rattle.kb_days.specs.Calendar.{last_charged, end_of_days}
use Rattle.kb_timeline.specs.declared.subscription.Subscription.{Subscription}
use Rattle.kb_due.specs.declared.cell.Cell.{Cell}
use Rattle.kb_due.specs.Facts.{FactsValue}
use Rattle.kb_due.specs.Governing.{Governing, governing_on, IsBegun}
use Rattle.kb_due.specs.Life.{is_live_of}
use Rattle.kb_due.specs.DueDays.{fee_by, fee_of}
use Rattle.kb_base.specs.Intervals.{push_run}
use Rattle.kb_due.specs.CellStretches.{same_cell}
use Rattle.kb_events.specs.Private.QuietDays.{IsSteadyBetween}
use Rattle.kb_due.proofs.SameCells.{same_cell-same}
use Rattle.kb_base.proofs.Intervals.{push_run-runs}
use Rattle.kb_events.proofs.SteadyGoverning.{governing_on-steady}
use Rattle.kb_events.proofs.DueRuns.{runs-empty}

module _ (facts : FactsValue) (subscription : Subscription) (billed : ℕ) where
  -- a day after the billed date has no fee
  fee_of-late : (day : ℕ) → day ≤ last_charged → billed < day → fee_of facts subscription billed day ≡ None
  fee_of-late day told late = by_life (is_live_of facts subscription day) refl
    where
      by_life : (live : Bool) → is_live_of facts subscription day ≡ live
          → fee_of facts subscription billed day ≡ None
      by_life true is = rw (le-leb day last_charged told, is, lt-leb day billed late) refl
      by_life false is = rw (le-leb day last_charged told, is) refl

  -- and neither has one on which the subscription isn't live
  fee_of-dead : (day : ℕ) → day ≤ last_charged → is_live_of facts subscription day ≡ false
      → fee_of facts subscription billed day ≡ None
  fee_of-dead day told dead = rw (le-leb day last_charged told, dead) refl

  -- one up to the billed date has that of what governs it
  fee_of-live : (day : ℕ) → day ≤ last_charged → is_live_of facts subscription day ≡ true → day ≤ billed
      → fee_of facts subscription billed day ≡ option_and_then (fee_by facts day)
      (governing_on facts.catalog subscription.entries day)
  fee_of-live day told live past = rw (le-leb day last_charged told, live, le-leb day billed past) refl

  -- where nothing does, or what does has no fee, it has none
  fee_of-none : (day : ℕ) (governing : Option Governing) → day ≤ last_charged
      → governing_on facts.catalog subscription.entries day ≡ governing
      → option_and_then (fee_by facts day) governing ≡ None → fee_of facts subscription billed day ≡ None
  fee_of-none day governing told governs none =
      by_life (is_live_of facts subscription day) refl (nat_le day billed) refl
    where
      by_life : (live : Bool) → is_live_of facts subscription day ≡ live → (past : Bool)
          → nat_le day billed ≡ past → fee_of facts subscription billed day ≡ None
      by_life true is true up_to = rw (le-leb day last_charged told, is, up_to, governs) none
      by_life true is false after = rw (le-leb day last_charged told, is, after) refl
      by_life false is past e = rw (le-leb day last_charged told, is) refl

module _ (facts : FactsValue) (subscription : Subscription) (from to : ℕ)
    (steady : IsSteadyBetween facts subscription from to)
    (last : to ≤ end_of_days) (billed : ℕ)
    (first : ℕ) (found : List (Stretch Cell)) (named : first ≤ from) (order : from < to)
    (so_far : found ≡ runs same_cell (fee_of facts subscription billed) first (from - first)) where
  -- there is none after the billed date
  pub fees-late : billed < from → found ≡ runs same_cell (fee_of facts subscription billed) first (to - first)
  fees-late late =
      runs-empty (fee_of facts subscription billed) first from to found named order
      (λ day after before. fee_of-late facts subscription billed day (omega (arith, before, last))
      (omega (arith, late, after))) so_far

  -- none where the subscription isn't live
  pub fees-dead : is_live_of facts subscription from ≡ false
      → found ≡ runs same_cell (fee_of facts subscription billed) first (to - first)
  fees-dead dead =
      runs-empty (fee_of facts subscription billed) first from to found named order
      (λ day after before. fee_of-dead facts subscription billed day (omega (arith, before, last))
      (steady.life day after before ∙ dead)) so_far

  -- what governs the first of them governs all
  governs-all : (day : ℕ) → from ≤ day → day < to
      → governing_on facts.catalog subscription.entries day
      ≡ governing_on facts.catalog subscription.entries from
  governs-all day after before =
      governing_on-steady facts.catalog subscription.entries from day after (steady.entries day before)
      (steady.phases day before)

  -- none where nothing governs
  pub fees-nothing : governing_on facts.catalog subscription.entries from ≡ None
      → found ≡ runs same_cell (fee_of facts subscription billed) first (to - first)
  fees-nothing none =
      runs-empty (fee_of facts subscription billed) first from to found named order
      (λ day after before. fee_of-none facts subscription billed day None (omega (arith, before, last))
      (governs-all day after before ∙ none) refl) so_far

  -- a phase starts on no later one, so none of these has a fee
  later-none : (governing : Governing) → IsBegun governing from
      → governing_on facts.catalog subscription.entries from ≡ Some governing
      → (day : ℕ) → from + 1 ≤ day → day < to → fee_of facts subscription billed day ≡ None
  later-none governing begun governs day after before =
      let other : nat_eq governing.start day ≡ false =
      ne_eqb governing.start day (λ same. omega (arith, begun.1, same, after)) in
      fee_of-none facts subscription billed day (Some governing) (omega (arith, before, last))
      (governs-all day (omega (arith, after)) before ∙ governs) (rw other refl)

  -- else the first has the fee of what governs it
  pub fees-governed : (governing : Governing) → IsBegun governing from
      → governing_on facts.catalog subscription.entries from ≡ Some governing
      → is_live_of facts subscription from ≡ true → from ≤ billed
      → push_run same_cell found from (from + 1) (fee_by facts from governing)
      ≡ runs same_cell (fee_of facts subscription billed) first (to - first)
  fees-governed governing begun governs live past = by_order (cases_lt (from + 1) to)
    where
      key : ℕ → Option Cell
      key = fee_of facts subscription billed

      here : key from ≡ fee_by facts from governing
      here = fee_of-live facts subscription billed from (omega (arith, order, last)) live past
          ∙ ap (option_and_then (fee_by facts from)) governs

      pushed : push_run same_cell found from (from + 1) (fee_by facts from governing)
          ≡ runs same_cell key first (from + 1 - first)
      pushed =
          push_run-runs same_cell same_cell-same key first from (from + 1) found (fee_by facts from governing)
          named (omega arith)
          (λ day after before. let same : day ≡ from = omega (arith, after, before) in ap key same ∙ here)
          so_far

      by_order : (from + 1 < to) ⊎ (to ≤ from + 1)
          → push_run same_cell found from (from + 1) (fee_by facts from governing)
          ≡ runs same_cell key first (to - first)
      by_order (inl more) =
          runs-empty key first (from + 1) to (push_run same_cell found from (from + 1)
          (fee_by facts from governing)) (omega (arith, named)) more
          (later-none governing begun governs) pushed
      by_order (inr all) =
          let same : from + 1 ≡ to = omega (arith, all, order) in
          pushed ∙ ap (λ (end : ℕ). runs same_cell key first (end - first)) same
