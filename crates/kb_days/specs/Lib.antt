pub mod Adding
pub mod Calendar
pub mod DateText
pub mod Dates
pub mod Names
pub mod Periods
