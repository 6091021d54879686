pub mod Doors
pub mod Memory
pub mod NamedDays
pub mod Notes
pub mod Pairs
