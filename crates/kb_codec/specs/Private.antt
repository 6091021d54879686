pub mod Parts
pub mod SmallReadings
