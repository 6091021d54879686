-- The fees of the days up to one are told, cut by cut.
use Rattle.std.proofs.Common.{◌≡◌, ℕ, ◌+◌, ◌-◌, ◌<◌, ◌≤◌, true, List, [], length, get_or, Option, IfSome}
use Rattle.std.proofs.Common.{refl, ap, subst, ◌∙◌, arith}
use Rattle.std.proofs.lemmas.List.Elements.{Contains-get_or}
use Rattle.kb_base.specs.Runs.{Stretch, runs}
use Rattle.kb_days.specs.Calendar.{first_day, charged_days, end_of_days}
use Rattle.kb_timeline.specs.declared.subscription.Subscription.{Subscription}
use Rattle.kb_due.specs.declared.cell.Cell.{Cell}
use Rattle.kb_due.specs.Facts.{FactsValue}
use Rattle.kb_due.specs.DueDays.{fee_of}
use Rattle.kb_events.specs.Private.Cuts.{HasDay, AreCuts, ArePassed, IsGap}
use Rattle.kb_events.specs.Private.Ends.{IsLifeEnd}
use Rattle.kb_due.specs.CellStretches.{same_cell}
use Rattle.kb_events.specs.Private.QuietDays.{IsSteadyBetween}
use Rattle.kb_events.proofs.BetweenCuts.{IsSteadyBetween-gap}
use Rattle.kb_events.proofs.PassedCuts.{ArePassed-next, IsGap-passed, Contains-passed}

module _ (facts : FactsValue) (subscription : Subscription) (billed : ℕ) (cuts : List ℕ) where
  -- the fees up to a day are told, by which so many cuts are passed
  pub record AreFeesTold (place day : ℕ) (found : List (Stretch Cell)) : Type 0 where
    pub passed : ArePassed cuts place day
    pub first : first_day ≤ day
    pub last : day ≤ end_of_days
    pub told : found ≡ runs same_cell (fee_of facts subscription billed) first_day (day - first_day)

  -- before all cuts none is
  pub AreFeesTold-first : AreFeesTold 0 first_day []
  unfolding runs
  AreFeesTold-first = record {
    passed = λ place inside. absurd (omega (arith, inside));
    first = omega arith;
    last = omega arith;
    told = refl;
  }

  module _ (are : AreCuts cuts facts subscription) (place day : ℕ) (found : List (Stretch Cell))
      (is : AreFeesTold place day found) where
    -- up to a later cut they are told, if those between are
    pub AreFeesTold-next : (end : Option ℕ) → (subscription.addon ≡ true → IsLifeEnd facts subscription end)
        → IfSome end (HasDay cuts) → (to : ℕ)
        → (found' : List (Stretch Cell)) → place < length cuts → get_or cuts place 0 ≡ to → day < to
        → (IsSteadyBetween facts subscription day to → (subscription.addon ≡ true → IsLifeEnd facts
        subscription end)
        → found ≡ runs same_cell (fee_of facts subscription billed) first_day (day - first_day)
        → found' ≡ runs same_cell (fee_of facts subscription billed) first_day (to - first_day))
        → AreFeesTold (place + 1) to found'
    AreFeesTold-next end ends cut to found' inside at later between =
        let high = are.told (get_or cuts place 0) (Contains-get_or cuts place 0 inside) in
        let gap = subst (IsGap cuts day) at (IsGap-passed cuts place day are.rising is.passed inside) in
        let steady = IsSteadyBetween-gap cuts facts subscription are day to gap is.first
        (omega (arith, high, at)) end ends cut in
        record {
          passed = ArePassed-next cuts place day to is.passed (omega (arith, later)) (omega (arith, at));
          first = omega (arith, is.first, later);
          last = omega (arith, high, at);
          told = between steady ends is.told;
        }

    -- a cut that isn't later is passed too
    pub AreFeesTold-same : get_or cuts place 0 ≤ day → AreFeesTold (place + 1) day found
    AreFeesTold-same past = record {
      passed = ArePassed-next cuts place day day is.passed (omega arith) past;
      first = is.first;
      last = is.last;
      told = is.told;
    }

    -- where all cuts are passed, the fees of all days are told
    pub AreFeesTold-all : length cuts ≤ place
        → found ≡ runs same_cell (fee_of facts subscription billed) first_day charged_days
    AreFeesTold-all all =
        let after = Contains-passed cuts place day end_of_days is.passed all are.ends in
        let same : day ≡ end_of_days = omega (arith, after, is.last) in
        is.told ∙ ap (λ (other : ℕ). runs same_cell (fee_of facts subscription billed) first_day
        (other - first_day)) same
