pub mod Looking
pub mod Parts
pub mod Replays
pub mod Runs
pub mod Settlements
pub mod Unwritten
