mod Accepted
mod Added
mod AsBefore
mod ComeBack
mod Opened
mod Outcomes
mod Places
mod Read
mod Returned
mod Rooms
mod Served
mod Unharmed
mod Unloaded
pub mod Amongs
pub mod Closing
pub mod Gateways
pub mod GivenBack
pub mod LeftIn
pub mod Unchanged
