pub mod GivenBack
pub mod KeptAttempts
pub mod KeptSums
pub mod LentEntries
