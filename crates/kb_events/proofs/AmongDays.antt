-- Days that are among some stay among more.
use Rattle.std.proofs.Common.{inl, inr, ℕ, ◌≤◌, List, [], ◌∷◌, ◌++◌, get_or, Option, Some, None, IfSome, All}
use Rattle.std.proofs.Common.{arith}
use Rattle.std.specs.List.Sorted.{IsPermutation, IsNonDecreasing}
use Rattle.std.proofs.lemmas.List.Elements.{Contains-append_left, Contains-push, Contains-push_cases}
use Rattle.std.proofs.lemmas.List.Sorted.{Contains-permutation, IsPermutation-sym}
use Rattle.kb_days.specs.Calendar.{end_of_days}
use Rattle.kb_catalog.specs.declared.version.Version.{Version}
use Rattle.kb_timeline.specs.declared.entry.Entry.{Entry}
use Rattle.kb_timeline.specs.declared.subscription.Subscription.{Subscription}
use Rattle.kb_align.specs.Phases.{phase_starts}
use Rattle.kb_due.specs.Facts.{FactsValue}
use Rattle.kb_due.specs.Life.{lead_subscription}
use Rattle.kb_due.specs.Governing.{Choice, choice_of, spans_of}
use Rattle.kb_events.specs.Private.Cuts.{HasDay, HasStarts, HasPhases, HasEntry, HasEntryDays, HasLead}
use Rattle.kb_events.specs.Private.Cuts.{HasLeadOf, HasChanges, KeepsDays, AreCuts}

-- days are kept among themselves
pub KeepsDays-refl : (days : List ℕ) → KeepsDays days days
KeepsDays-refl days = record { keeps = λ day has. has; told = λ told. told }

-- and among more than more
pub KeepsDays-trans : (days more most : List ℕ) → KeepsDays days more → KeepsDays more most
    → KeepsDays days most
KeepsDays-trans days more most one other =
    record {
      keeps = λ day has. other.keeps day (one.keeps day has);
      told = λ told. other.told
          (one.told told);
    }

-- and beside one more day, up to the end
pub KeepsDays-push : (days : List ℕ) (day : ℕ) → day ≤ end_of_days → KeepsDays days (days ++ day ∷ [])
KeepsDays-push days day told = record {
  keeps = λ other has. Contains-append_left days (day ∷ []) other has;
  told = λ before other has. elim (Contains-push_cases days day other has)
      [ inl among ↦ before other among | inr same ↦ omega (arith, same, told) ];
}

-- where a sort takes some days into others, they are kept
pub KeepsDays-sorted : (days sorted : List ℕ) → IsPermutation days sorted → KeepsDays days sorted
KeepsDays-sorted days sorted moved = record {
  keeps = λ day has. Contains-permutation days sorted day moved has;
  told = λ told day has. told day (Contains-permutation sorted days day (IsPermutation-sym days sorted moved)
      has);
}

-- a day that is among some is among more
pub HasDay-more : (days more : List ℕ) (day : ℕ) → KeepsDays days more → HasDay days day → HasDay more day
HasDay-more days more day keeps has first last = keeps.keeps day (has first last)

-- and so is a start, if it is reached
pub IfSome-more : (days more : List ℕ) (start : Option ℕ) → KeepsDays days more → IfSome start (HasDay days)
    → IfSome start (HasDay more)
IfSome-more days more None keeps has = tt
IfSome-more days more (Some start) keeps has = HasDay-more days more start keeps has

-- and so are starts
pub HasStarts-more : (days more : List ℕ) (starts : List (Option ℕ)) → KeepsDays days more
    → HasStarts days starts → HasStarts more starts
HasStarts-more days more starts keeps has =
    λ k d h. IfSome-more days more (get_or starts k d) keeps (has k d h)

-- and so are the phases of an entry
pub HasPhases-more : (days more : List ℕ) (catalog : List Version) (entry : Entry) → KeepsDays days more
    → HasPhases days catalog entry → HasPhases more catalog entry
HasPhases-more days more catalog entry keeps has = by_choice (choice_of catalog entry.plan) has
  where
    by_choice : (choice : Option Choice)
        → IfSome choice (λ (choice : Choice). HasStarts days
        (phase_starts entry.anchor (spans_of choice.plan)))
        → IfSome choice (λ (choice : Choice). HasStarts more
        (phase_starts entry.anchor (spans_of choice.plan)))
    by_choice None has = tt
    by_choice (Some choice) has =
        HasStarts-more days more (phase_starts entry.anchor (spans_of choice.plan)) keeps has

-- and so is an entry
pub HasEntry-more : (days more : List ℕ) (catalog : List Version) (entry : Entry) → KeepsDays days more
    → HasEntry days catalog entry → HasEntry more catalog entry
HasEntry-more days more catalog entry keeps has =
    (HasDay-more days more entry.day keeps has.0, HasPhases-more days more catalog entry keeps has.1)

-- and so are the days of entries
pub HasEntryDays-more : (days more : List ℕ) (entries : List Entry) → KeepsDays days more
    → HasEntryDays days entries → HasEntryDays more entries
HasEntryDays-more days more entries keeps has =
    λ k d h. HasDay-more days more (get_or entries k d).day keeps (has k d h)

-- and so are entries
pub HasEntries-more : (days more : List ℕ) (catalog : List Version) (entries : List Entry)
    → KeepsDays days more → All (HasEntry days catalog) entries
    → All (HasEntry more catalog) entries
HasEntries-more days more catalog entries keeps has =
    λ k d h. HasEntry-more days more catalog (get_or entries k d) keeps (has k d h)

-- and so is what belongs to a lead
pub HasLead-more : (days more : List ℕ) (lead : Subscription) → KeepsDays days more → HasLead days lead
    → HasLead more lead
HasLead-more days more lead keeps has =
    (HasEntryDays-more days more lead.entries keeps has.0, IfSome-more days more lead.cancel keeps has.1)

pub HasLeadOf-more : (days more : List ℕ) (facts : FactsValue) (subscription : Subscription)
    → KeepsDays days more → HasLeadOf days facts subscription
    → HasLeadOf more facts subscription
HasLeadOf-more days more facts subscription keeps has is =
    by_lead (lead_subscription facts subscription) (has is)
  where
    by_lead : (lead : Option Subscription) → IfSome lead (HasLead days) → IfSome lead (HasLead more)
    by_lead None has = tt
    by_lead (Some lead) has = HasLead-more days more lead keeps has

-- and so are all days on which something may change
pub HasChanges-more : (days more : List ℕ) (facts : FactsValue) (subscription : Subscription)
    → KeepsDays days more
    → HasChanges days facts subscription → HasChanges more facts subscription
HasChanges-more days more facts subscription keeps has = record {
  entries = HasEntries-more days more facts.catalog subscription.entries keeps has.entries;
  cancel = IfSome-more days more subscription.cancel keeps has.cancel;
  lead = HasLeadOf-more days more facts subscription keeps has.lead;
}

-- and so are all days of a list
pub HasDays-more : (days more turns : List ℕ) → KeepsDays days more → All (HasDay days) turns
    → All (HasDay more) turns
HasDays-more days more turns keeps has = λ k d h. HasDay-more days more (get_or turns k d) keeps (has k d h)

-- days with the end behind them, among which then all are kept that may change something, are cuts once they
-- are sorted
pub AreCuts-sorted : (days sorted : List ℕ) (facts : FactsValue) (subscription : Subscription)
    → KeepsDays (end_of_days ∷ []) days
    → HasChanges days facts subscription → IsPermutation days sorted → IsNonDecreasing sorted
    → AreCuts sorted facts subscription
AreCuts-sorted days sorted facts subscription keeps has moved rising =
    let kept = KeepsDays-trans (end_of_days ∷ []) days sorted keeps (KeepsDays-sorted days sorted moved) in
    record {
      rising = rising;
      told = kept.told (λ day among. elim (Contains-push_cases [] end_of_days day among)
          [ inl before ↦ absurd (omega (arith, before.1)) | inr same ↦ omega (arith, same) ]);
      ends = kept.keeps end_of_days (Contains-push [] end_of_days);
      has = HasChanges-more days sorted facts subscription (KeepsDays-sorted days sorted moved) has;
    }
