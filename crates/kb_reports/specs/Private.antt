pub mod Collecting
pub mod Fields
pub mod Parts

-- What only private contracts and proofs cite.
