mod Accounts
mod Beside
mod EachLane
mod LaneLoops
mod LanesAlike
mod Later
mod OverRuns
mod Served
pub mod AskedOn
pub mod Continuing
pub mod Filled
pub mod Found
pub mod RunsAlike
