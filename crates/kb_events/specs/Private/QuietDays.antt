-- Days on which nothing happens to a subscription.
use Rattle.std.specs.Prelude.{ℕ, ◌≡◌, ◌<◌, ◌≤◌}
use Rattle.kb_timeline.specs.declared.subscription.Subscription.{Subscription}
use Rattle.kb_due.specs.Facts.{FactsValue, chain_of}
use Rattle.kb_due.specs.Life.{is_live_of}
use Rattle.kb_events.specs.Private.Standing.{KeepsFlag}
use Rattle.kb_events.specs.Private.Quiet.{AreEntriesQuiet, ArePhasesQuiet}

-- after one day and before another no entry and no phase begins, and life goes on as it is
pub record IsSteadyBetween (facts : FactsValue) (subscription : Subscription) (from to : ℕ) : Type 0 where
  pub entries : (day : ℕ) → day < to → AreEntriesQuiet from day subscription.entries
  pub phases : (day : ℕ) → day < to → ArePhasesQuiet facts.catalog subscription.entries from day
  pub life : (day : ℕ) → from ≤ day → day < to
      → is_live_of facts subscription day ≡ is_live_of facts subscription from

-- and the billing flag doesn't turn
pub record IsQuietBetween (facts : FactsValue) (subscription : Subscription) (sub from to : ℕ) : Type 0 where
  pub steady : IsSteadyBetween facts subscription from to
  pub flags : KeepsFlag facts.blocks (chain_of subscription sub) from to
