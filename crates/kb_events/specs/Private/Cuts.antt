-- Days among which all are that may change what is charged.
use Rattle.std.specs.Prelude.{ℕ, ◌≡◌, ◌<◌, ◌≤◌, true, List, get_or, Contains, All, Option, IfSome}
use Rattle.std.specs.List.Sorted.{IsNonDecreasing}
use Rattle.kb_catalog.specs.declared.version.Version.{Version}
use Rattle.kb_align.specs.Phases.{phase_starts}
use Rattle.kb_timeline.specs.declared.entry.Entry.{Entry}
use Rattle.kb_timeline.specs.declared.subscription.Subscription.{Subscription}
use Rattle.kb_due.specs.Governing.{Choice, choice_of, spans_of}
use Rattle.kb_days.specs.Calendar.{first_day, last_charged, end_of_days}
use Rattle.kb_due.specs.Facts.{FactsValue}
use Rattle.kb_due.specs.Life.{lead_subscription}

-- a day is among some, if it may be charged
abbrev pub HasDay : List ℕ → ℕ → Type 0
HasDay days day = first_day ≤ day → day ≤ last_charged → Contains days day

-- each start is among some days, where it is reached
abbrev pub HasStarts : List ℕ → List (Option ℕ) → Type 0
HasStarts days starts = All (λ (start : Option ℕ). IfSome start (HasDay days)) starts

-- the starts of the phases that an entry counts are among some days
abbrev pub HasPhases : List ℕ → List Version → Entry → Type 0
HasPhases days catalog entry =
    IfSome (choice_of catalog entry.plan) (λ (choice : Choice). HasStarts days
    (phase_starts entry.anchor (spans_of choice.plan)))

-- the day of an entry is among some days, and so are the starts of its phases
abbrev pub HasEntry : List ℕ → List Version → Entry → Type 0
HasEntry days catalog entry = HasDay days entry.day × HasPhases days catalog entry

-- the days of entries are among some days
abbrev pub HasEntryDays : List ℕ → List Entry → Type 0
HasEntryDays days entries = All (λ (entry : Entry). HasDay days entry.day) entries

-- the days of a subscription's entries and of its cancellation are among some days
abbrev pub HasLead : List ℕ → Subscription → Type 0
HasLead days subscription = HasEntryDays days subscription.entries × IfSome subscription.cancel (HasDay days)

-- the days of an add-on's lead are among some days
abbrev pub HasLeadOf : List ℕ → FactsValue → Subscription → Type 0
HasLeadOf days facts subscription = subscription.addon ≡ true
    → IfSome (lead_subscription facts subscription) (HasLead days)

-- all days on which something may change for a subscription are among some days but for the turns of the
-- billing flag: those of its entries and their phases, of its cancellation, and of its lead if it is an
-- add-on
pub record HasChanges (days : List ℕ) (facts : FactsValue) (subscription : Subscription) : Type 0 where
  pub entries : All (HasEntry days facts.catalog) subscription.entries
  pub cancel : IfSome subscription.cancel (HasDay days)
  pub lead : HasLeadOf days facts subscription

-- no day of some lies behind the end
abbrev pub AreTold : List ℕ → Type 0
AreTold days = (day : ℕ) → Contains days day → day ≤ end_of_days

-- all days of some are among others, of which none lies behind the end if none of the first did
pub record KeepsDays (days more : List ℕ) : Type 0 where
  pub keeps : (day : ℕ) → Contains days day → Contains more day
  pub told : AreTold days → AreTold more

-- the cuts of a subscription: rising days up to the end, among them all on which something may change
pub record AreCuts (days : List ℕ) (facts : FactsValue) (subscription : Subscription) : Type 0 where
  pub rising : IsNonDecreasing days
  pub told : AreTold days
  pub ends : Contains days end_of_days
  pub has : HasChanges days facts subscription

-- none of some days lies between two others
abbrev pub IsGap : List ℕ → ℕ → ℕ → Type 0
IsGap days from to = (day : ℕ) → Contains days day → from < day → day < to → ⊥

-- the first ones of some days, so many, lie on or before a day
abbrev pub ArePassed : List ℕ → ℕ → ℕ → Type 0
ArePassed days count from = (place : ℕ) → place < count → get_or days place 0 ≤ from
