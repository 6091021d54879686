pub mod Commands
pub mod Grammar
pub mod Options
pub mod Private
pub mod Tokens
pub mod Values
