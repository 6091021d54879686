-- What happens to a subscription.
use Rattle.std.specs.Prelude.{ℕ, ◌≡◌, ◌<◌, ◌≤◌, true, List, All, AllPairs, Option, IfSome}
use Rattle.kb_days.specs.Calendar.{first_day}
use Rattle.kb_timeline.specs.declared.entry.Entry.{Entry}
use Rattle.kb_timeline.specs.declared.subscription.Subscription.{Subscription}
use Rattle.kb_due.specs.Facts.{FactsValue, chain_of}
use Rattle.kb_events.specs.Private.Cuts.{HasDay, AreCuts}
use Rattle.kb_events.specs.Private.Ends.{IsLifeEnd}
use Rattle.kb_events.specs.Private.Standing.{AreTurns}

-- the cuts of a subscription, the turns of its billing flag, and the end of its life as an add-on; the turns
-- and the end are among the cuts, and no entry is dated before the days that commands name
pub record IsCourse (facts : FactsValue) (subscription : Subscription) (sub : ℕ) (cuts turning : List ℕ)
    (end : Option ℕ) : Type 0 where
  pub are : AreCuts cuts facts subscription
  pub turns : AreTurns facts.blocks (chain_of subscription sub) turning
  pub rising : AllPairs (λ (earlier later : ℕ). earlier < later) turning
  pub turned : All (HasDay cuts) turning
  pub ends : subscription.addon ≡ true → IsLifeEnd facts subscription end
  pub cut : IfSome end (HasDay cuts)
  pub named : All (λ (entry : Entry). first_day ≤ entry.day) subscription.entries
