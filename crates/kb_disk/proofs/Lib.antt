pub mod Lookups
pub mod Moments
pub mod Places
pub mod Tellings
