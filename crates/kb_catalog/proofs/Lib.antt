pub mod Added
pub mod BothPlaces
pub mod Decided
pub mod DistinctNames
pub mod Holding
mod LastMembers
pub mod LastPhases
pub mod Latest
pub mod OnlyPlans
pub mod RulesHold
