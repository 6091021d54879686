mod Asking
mod BillKeys
mod BilledAccounts
pub mod Choices
mod DrainBounds
mod Freed
pub mod Going
mod Grows
mod Handled
mod Kept
mod LaneWork
mod LookedWell
mod LookingUp
mod Marks
mod Outcomes
mod Pairs
mod Payloads
mod Places
pub mod Rest
pub mod Rooms
pub mod SaidReplies
pub mod Settled
mod Settling
mod Standing
mod Stuck
mod TallySums
mod ToLookUp
pub mod Within
mod WorkBounds
mod WrittenDown
