pub mod ConfigRules
pub mod OverdueDays
pub mod Thresholds
