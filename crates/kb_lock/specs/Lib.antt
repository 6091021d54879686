pub mod FirstCome
pub mod Passes
pub mod Private
pub mod Rule
