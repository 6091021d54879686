-- The end of a life: the first day on which an add-on isn't kept by its lead.
use Rattle.std.specs.Prelude.{ℕ, ◌≡◌, ◌<◌, ◌≤◌, Bool, true, false, nat_lt, List, slice_get, Option, Some}
use Rattle.std.specs.Prelude.{None, IfSome}
use Rattle.kb_days.specs.Calendar.{last_charged}
use Rattle.kb_catalog.specs.declared.version.Version.{Version}
use Rattle.kb_timeline.specs.declared.entry.Entry.{Entry}
use Rattle.kb_timeline.specs.declared.subscription.Subscription.{Subscription}
use Rattle.kb_due.specs.Facts.{FactsValue}
use Rattle.kb_due.specs.Life.{is_kept_on, lead_subscription}

-- a day is the first one from another on that fails a test
pub record IsFirstFailure (test : ℕ → Bool) (from end : ℕ) : Type 0 where
  pub begins : from ≤ end
  pub passes : (day : ℕ) → from ≤ day → day < end → test day ≡ true
  pub fails : test end ≡ false

-- the first day from one on that fails a test, if there is one: where there is none, each of them passes that
-- may be charged
abbrev pub IsFailureFrom : (ℕ → Bool) → ℕ → Option ℕ → Type 0
IsFailureFrom test from None = (day : ℕ) → from ≤ day → day ≤ last_charged → test day ≡ true
IsFailureFrom test from (Some end) = IsFirstFailure test from end

-- the lead of an add-on's bundle runs on a day, and offers it
abbrev pub is_kept_by_on : List Version → Option Subscription → Subscription → ℕ → Bool
is_kept_by_on catalog None addon day = false
is_kept_by_on catalog (Some lead) addon day = is_kept_on catalog lead addon day

-- the end of a subscription's life as an add-on: the first day from its start on on which it isn't kept, or
-- none
abbrev pub IsLifeEnd : FactsValue → Subscription → Option ℕ → Type 0
IsLifeEnd facts subscription end = IfSome (slice_get subscription.entries 0) (λ (start : Entry).
    IsFailureFrom (is_kept_by_on facts.catalog (lead_subscription facts subscription) subscription) start.day
    end)

-- a day lies before an end; where there is none, each does
abbrev pub is_before : Option ℕ → ℕ → Bool
is_before None day = true
is_before (Some end) day = nat_lt day end
