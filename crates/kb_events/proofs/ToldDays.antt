-- The due cells of the days up to one are told, cut by cut.
use Rattle.std.proofs.Common.{◌≡◌, ℕ, ◌+◌, ◌-◌, ◌<◌, ◌≤◌, Bool, true, List, [], length, get_or, Option, refl}
use Rattle.std.proofs.Common.{ap, subst, ◌∙◌, arith}
use Rattle.std.proofs.lemmas.List.Elements.{Contains-get_or}
use Rattle.kb_base.specs.Runs.{Stretch, runs}
use Rattle.kb_days.specs.Calendar.{first_day, charged_days, end_of_days}
use Rattle.kb_timeline.specs.declared.subscription.Subscription.{Subscription}
use Rattle.kb_due.specs.declared.cell.Cell.{Cell}
use Rattle.kb_due.specs.Facts.{FactsValue, chain_of}
use Rattle.kb_due.specs.DueDays.{due_of}
use Rattle.kb_events.specs.Private.Courses.{IsCourse}
use Rattle.kb_events.specs.Private.Cuts.{ArePassed, IsGap}
use Rattle.kb_events.specs.Private.Ends.{IsLifeEnd}
use Rattle.kb_due.specs.CellStretches.{same_cell}
use Rattle.kb_events.specs.Private.QuietDays.{IsQuietBetween}
use Rattle.kb_events.specs.Private.Standing.{AreTurns, IsStanding, KeepsFlag}
use Rattle.kb_events.proofs.BetweenCuts.{IsQuietBetween-gap}
use Rattle.kb_events.proofs.PassedCuts.{ArePassed-next, IsGap-passed, Contains-passed}

module _ (facts : FactsValue) (subscription : Subscription) (sub billed : ℕ) (cuts turning : List ℕ)
    (end : Option ℕ) where
  -- the cells up to a day are told, by which so many cuts are passed, and it is known how the billing flag
  -- stands on it
  pub record IsTold (place day : ℕ) (blocked : Bool) (turn : ℕ) (found : List (Stretch Cell)) : Type 0 where
    pub stands : IsStanding facts.blocks (chain_of subscription sub) day blocked turn
    pub passed : ArePassed cuts place day
    pub first : first_day ≤ day
    pub last : day ≤ end_of_days
    pub told : found ≡ runs same_cell (due_of facts subscription sub billed) first_day (day - first_day)

  -- before all cuts none is
  pub IsTold-first : (blocked : Bool) (turn : ℕ)
      → IsStanding facts.blocks (chain_of subscription sub) first_day blocked turn
      → IsTold 0 first_day blocked turn []
  unfolding runs
  IsTold-first blocked turn stands = record {
    stands = stands;
    passed = λ place inside. absurd (omega (arith, inside));
    first = omega arith;
    last = omega arith;
    told = refl;
  }

  module _ (course : IsCourse facts subscription sub cuts turning end) (place day : ℕ) (blocked : Bool)
      (turn : ℕ) (found : List (Stretch Cell))
      (is : IsTold place day blocked turn found) where
    -- nothing happens up to the next cut
    gap-quiet : (to : ℕ) → place < length cuts → get_or cuts place 0 ≡ to
        → IsQuietBetween facts subscription sub day to
    gap-quiet to inside at =
        let high = course.are.told (get_or cuts place 0) (Contains-get_or cuts place 0 inside) in
        IsQuietBetween-gap cuts facts subscription course.are day to
        (subst (IsGap cuts day) at (IsGap-passed cuts place day course.are.rising is.passed inside))
        is.first (omega (arith, high, at)) sub end turning course.ends course.cut
        (λ other turns. (course.turns other).1 turns) course.turned

    -- up to a later cut the cells are told, if those between are
    pub IsTold-next : (to : ℕ) (blocked' : Bool) (turn' : ℕ) (found' : List (Stretch Cell))
        → place < length cuts → get_or cuts place 0 ≡ to → day < to
        → (IsQuietBetween facts subscription sub day to → IsStanding facts.blocks (chain_of subscription sub)
        day blocked turn
        → (subscription.addon ≡ true → IsLifeEnd facts subscription end)
        → found ≡ runs same_cell (due_of facts subscription sub billed) first_day (day - first_day)
        → found' ≡ runs same_cell (due_of facts subscription sub billed) first_day (to - first_day))
        → (AreTurns facts.blocks (chain_of subscription sub) turning → KeepsFlag facts.blocks
        (chain_of subscription sub) day to
        → IsStanding facts.blocks (chain_of subscription sub) day blocked turn
        → IsStanding facts.blocks (chain_of subscription sub) to blocked' turn')
        → IsTold (place + 1) to blocked' turn' found'
    IsTold-next to blocked' turn' found' inside at later between stands =
        let quiet = gap-quiet to inside at in
        let high = course.are.told (get_or cuts place 0) (Contains-get_or cuts place 0 inside) in
        record {
          stands = stands course.turns quiet.flags is.stands;
          passed = ArePassed-next cuts place day to is.passed (omega (arith, later)) (omega (arith, at));
          first = omega (arith, is.first, later);
          last = omega (arith, high, at);
          told = between quiet is.stands course.ends is.told;
        }

    -- a cut that isn't later is passed too
    pub IsTold-same : get_or cuts place 0 ≤ day → IsTold (place + 1) day blocked turn found
    IsTold-same past = record {
      stands = is.stands;
      passed = ArePassed-next cuts place day day is.passed (omega arith) past;
      first = is.first;
      last = is.last;
      told = is.told;
    }

    -- where all cuts are passed, all days are told
    pub IsTold-all : length cuts ≤ place
        → found ≡ runs same_cell (due_of facts subscription sub billed) first_day charged_days
    IsTold-all all =
        let after = Contains-passed cuts place day end_of_days is.passed all course.are.ends in
        let same : day ≡ end_of_days = omega (arith, after, is.last) in
        is.told ∙ ap (λ (other : ℕ). runs same_cell (due_of facts subscription sub billed) first_day
        (other - first_day)) same
