mod InTurn
mod Kept
mod Moves
pub mod Prefixes
mod Views
