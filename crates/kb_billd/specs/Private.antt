pub mod OpenRuns

-- What only private contracts and proofs cite.
