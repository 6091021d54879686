pub mod Issues
pub mod Prepares
pub mod Private
pub mod Sums
pub mod Views
