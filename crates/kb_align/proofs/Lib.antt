pub mod BoundaryDays
pub mod FirstMonths
pub mod Lengths
pub mod Neighbours
mod OneMonth
pub mod Searches
pub mod Starts
pub mod Tiles
