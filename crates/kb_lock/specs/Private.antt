pub mod Inside
pub mod Plays
pub mod Views

-- What only private contracts and proofs cite.
