pub mod AllLanes
pub mod Faults
pub mod Readings
pub mod Runs
pub mod Unmade
