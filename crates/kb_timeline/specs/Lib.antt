pub mod EntryDays
pub mod SmallTimeline
pub mod SubscriptionEdits
pub mod TimelineEdits
