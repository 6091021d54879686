pub mod AddedStays
pub mod CountedStays
pub mod CutStays
pub mod Matters
pub mod Sweep
pub mod TurnDays
