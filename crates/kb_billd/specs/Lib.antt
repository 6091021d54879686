pub mod Foundings
pub mod Private
pub mod Reports
pub mod Runs
pub mod Summaries
pub mod TopCall
