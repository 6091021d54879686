pub mod Beginnings
pub mod Format
pub mod Keeping
pub mod Private
pub mod Reading
pub mod Unwritten
