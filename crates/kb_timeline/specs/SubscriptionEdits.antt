-- What an edit makes of a subscription, and why it is refused.
use Rattle.std.specs.Prelude.{ℕ, nat_lt, length, Option, Some, None, is_some, if◌then◌else◌}
use Rattle.kb_timeline.specs.declared.entry.Entry.{Entry}
use Rattle.kb_timeline.specs.declared.subscription.Subscription.{Subscription}
use Rattle.kb_timeline.specs.declared.edit_fault.EditFault.{EditFault}
use Rattle.kb_timeline.specs.declared.edit_fault.EditFault.TheVariants.{BeforeStart, Cancelled, NotCancelled}
use Rattle.kb_timeline.specs.declared.edit_fault.EditFault.TheVariants.{Limit}
use Rattle.kb_timeline.specs.declared.edit_fault.Limit.TheVariants.{Entries}
use Rattle.kb_timeline.specs.EntryDays.{max_entries, is_before_start, with_change}

-- a change: the entries that it leaves, and itself
abbrev pub change_of : Entry → Subscription → Subscription
change_of change subscription = record subscription { entries = with_change subscription.entries change }

-- it is refused before the start, where the subscription is cancelled on whichever day, and where it would be
-- one entry too many
abbrev pub change_fault_of : Entry → Subscription → Option EditFault
change_fault_of change subscription =
    if is_before_start subscription.entries change.day then Some BeforeStart
    else if is_some subscription.cancel then Some Cancelled
    else if nat_lt max_entries (length (with_change subscription.entries change)) then Some (Limit Entries)
    else None

-- a cancellation: its day is noted, and all entries stay, later ones too
abbrev pub cancel_of : ℕ → Subscription → Subscription
cancel_of day subscription = record subscription { cancel = Some day }

-- it is refused before the start, and where there is one
abbrev pub cancel_fault_of : ℕ → Subscription → Option EditFault
cancel_fault_of day subscription =
    if is_before_start subscription.entries day then Some BeforeStart
    else if is_some subscription.cancel then Some Cancelled
    else None

-- a cancellation is taken back, past or future
abbrev pub uncancel_of : Subscription → Subscription
uncancel_of subscription = record subscription { cancel = None }

-- it is refused where there is none
abbrev pub uncancel_fault_of : Subscription → Option EditFault
uncancel_fault_of subscription = if is_some subscription.cancel then None else Some NotCancelled
