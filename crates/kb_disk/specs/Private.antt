pub mod Calls
pub mod Replays
pub mod Steps
pub mod Untold
