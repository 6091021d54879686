pub mod BegunEntries
pub mod ChangedEntries
pub mod DatedEntries
pub mod EditedMembers
mod FoundPlaces
pub mod KeptTimelines
pub mod Leads
pub mod Partitions
