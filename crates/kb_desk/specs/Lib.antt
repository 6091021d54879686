pub mod Continuing
pub mod Lanes
pub mod Places
pub mod Stops
