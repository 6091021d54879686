pub mod Addressed
pub mod Applying
pub mod Determined
pub mod LaneRuns
