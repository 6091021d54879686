mod Applied
mod ByGateway
mod Causes
mod Founded
mod Reported
mod Untouched
pub mod Prefixes
