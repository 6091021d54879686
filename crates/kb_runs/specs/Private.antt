pub mod Lines
pub mod Stopping

-- What only private contracts and proofs cite.
