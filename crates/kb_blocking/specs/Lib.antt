pub mod Blocking
pub mod Private
pub mod SmallBlocks
