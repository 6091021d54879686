pub mod FoundPlaces
pub mod KeptRules
pub mod TakenStates
pub mod ToldFaults
