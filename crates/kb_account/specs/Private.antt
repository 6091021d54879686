pub mod Begins
pub mod KeptAnswers
pub mod KeptSums
pub mod LeavingCommands
pub mod Moves
pub mod States
