pub mod Between
pub mod Boundaries
pub mod PeriodDays
pub mod Phases
