-- Between two cuts that no other one parts nothing happens to a subscription.
use Rattle.std.proofs.Common.{◌≡◌, ℕ, ◌<◌, ◌≤◌, true, List, [], ◌∷◌, filter, nat_le, Option, Some, None}
use Rattle.std.proofs.Common.{IfSome, All, Contains, sym, ◌∙◌, arith}
use Rattle.std.specs.List.{last_or}
use Rattle.std.proofs.lemmas.List.Elements.{All-head, All-tail, All-filter}
use Rattle.kb_days.specs.Calendar.{first_day, end_of_days}
use Rattle.kb_timeline.specs.declared.entry.Entry.{Entry}
use Rattle.kb_timeline.specs.declared.subscription.Subscription.{Subscription}
use Rattle.kb_timeline.specs.EntryDays.{entry_on}
use Rattle.kb_blocking.specs.declared.state.Flag.TheVariants.{Billing}
use Rattle.kb_blocking.specs.Blocking.{turns}
use Rattle.kb_due.specs.Facts.{FactsValue, chain_of}
use Rattle.kb_due.specs.Life.{is_live_of}
use Rattle.kb_events.specs.Private.Quiet.{AreEntriesQuiet, IsPlanQuiet, ArePhasesQuiet}
use Rattle.kb_events.specs.Private.QuietDays.{IsSteadyBetween, IsQuietBetween}
use Rattle.kb_events.specs.Private.Ends.{IsLifeEnd}
use Rattle.kb_events.specs.Private.Cuts.{HasDay, HasEntry, AreCuts, IsGap}
use Rattle.kb_events.proofs.SteadyLife.{is_running-steady, IsStartQuiet-entries}
use Rattle.kb_events.proofs.KeptUntil.{is_live_of-until}
use Rattle.kb_events.proofs.QuietCuts.{HasEntries-quiet, HasPhases-quiet, IfSome-quiet, is_before-quiet}
use Rattle.kb_events.proofs.QuietCuts.{turns-quiet}

-- what holds of all members and of what stands before them holds of the last
IfSome-last_or : {A : Type 0} (P : A → Type 0) (before : Option A) (members : List A) → IfSome before P
    → All P members → IfSome (last_or before members) P
IfSome-last_or P before [] here all = here
IfSome-last_or P before (member ∷ later) here all =
    IfSome-last_or P (Some member) later (All-head P member later all) (All-tail P member later all)

-- what holds of all entries holds of the one that governs a day
pub IfSome-entry_on : (P : Entry → Type 0) (entries : List Entry) (day : ℕ) → All P entries
    → IfSome (entry_on entries day) P
IfSome-entry_on P entries day all =
    let begun = λ (entry : Entry). nat_le entry.day day in
    IfSome-last_or P None (filter begun entries) tt (All-filter begun P entries all)

-- what holds of what is there gives what follows from it
IfSome-follows : {A : Type 0} (P Q : A → Type 0) (found : Option A) → ((it : A) → P it → Q it)
    → IfSome found P → IfSome found Q
IfSome-follows P Q None follows has = tt
IfSome-follows P Q (Some it) follows has = follows it has

module _ (cuts : List ℕ) (facts : FactsValue) (subscription : Subscription)
    (are : AreCuts cuts facts subscription) (from to : ℕ) (gap : IsGap cuts from to)
    (low : first_day ≤ from) (high : to ≤ end_of_days) where
  -- no entry begins there
  pub AreEntriesQuiet-gap : (day : ℕ) → day < to → AreEntriesQuiet from day subscription.entries
  AreEntriesQuiet-gap day before =
      HasEntries-quiet cuts from to gap low high facts.catalog subscription.entries day before are.has.entries

  -- and no phase of the entry that governs
  pub ArePhasesQuiet-gap : (day : ℕ) → day < to → ArePhasesQuiet facts.catalog subscription.entries from day
  ArePhasesQuiet-gap day before =
      IfSome-follows (HasEntry cuts facts.catalog) (IsPlanQuiet facts.catalog from day)
      (entry_on subscription.entries from)
      (λ (entry : Entry) has. HasPhases-quiet cuts from to gap low high facts.catalog entry day before has.1)
      (IfSome-entry_on (HasEntry cuts facts.catalog) subscription.entries from are.has.entries)

  -- an end that is among the cuts comes on the first day or behind
  pub is_live_of-gap : (end : Option ℕ) → (subscription.addon ≡ true → IsLifeEnd facts subscription end)
      → IfSome end (HasDay cuts)
      → (day : ℕ) → from ≤ day → day < to
      → is_live_of facts subscription day ≡ is_live_of facts subscription from
  is_live_of-gap end ends cut day after before =
      let here = is_live_of-until facts subscription end from (omega (arith, high, after, before)) ends in
      let there = is_live_of-until facts subscription end day (omega (arith, high, before)) ends in
      let runs = is_running-steady subscription from day after
      (IsStartQuiet-entries subscription.entries from day (AreEntriesQuiet-gap day before))
      (IfSome-quiet cuts from to gap low high subscription.cancel day before are.has.cancel) in
      let ended = is_before-quiet cuts from to gap low high end day after before cut in
      there ∙ rw (runs, ended) (sym here)

  -- so it goes on steadily
  pub IsSteadyBetween-gap : (end : Option ℕ) → (subscription.addon ≡ true → IsLifeEnd facts subscription end)
      → IfSome end (HasDay cuts)
      → IsSteadyBetween facts subscription from to
  IsSteadyBetween-gap end ends cut =
      record {
        entries = AreEntriesQuiet-gap;
        phases = ArePhasesQuiet-gap;
        life = is_live_of-gap end ends
            cut;
      }

  -- and where the turns of the billing flag are among the cuts too, nothing happens
  pub IsQuietBetween-gap : (sub : ℕ) (end : Option ℕ) (turning : List ℕ)
      → (subscription.addon ≡ true → IsLifeEnd facts subscription end)
      → IfSome end (HasDay cuts)
      → ((day : ℕ) → turns facts.blocks (chain_of subscription sub) Billing day ≡ true → Contains turning
      day)
      → All (HasDay cuts) turning → IsQuietBetween facts subscription sub from to
  IsQuietBetween-gap sub end turning ends cut only turned = record {
    steady = IsSteadyBetween-gap end ends cut;
    flags = turns-quiet cuts from to gap low high (turns facts.blocks (chain_of subscription sub) Billing)
        turning only turned;
  }
