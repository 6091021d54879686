pub mod BegunCells
pub mod Courses
pub mod Cuts
pub mod Ends
pub mod Quiet
pub mod QuietDays
pub mod Shorts
pub mod Standing

-- What private contracts and proofs speak of: cuts, quiet days, and how the billing flag stands.
