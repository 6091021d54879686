pub mod Keys
pub mod Private
pub mod Sums
