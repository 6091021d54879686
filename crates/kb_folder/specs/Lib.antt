pub mod Begun
pub mod Folders
pub mod Foundings
pub mod OneLane
pub mod Openings
pub mod Private
