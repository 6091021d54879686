pub mod Endings
pub mod Private
pub mod Reading
pub mod Statuses
