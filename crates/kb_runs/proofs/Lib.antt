pub mod Among
pub mod OnlyRuns
pub mod Told
pub mod Transferred
