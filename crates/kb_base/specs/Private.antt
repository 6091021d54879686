pub mod Midstream

-- What only private contracts and proofs cite.
