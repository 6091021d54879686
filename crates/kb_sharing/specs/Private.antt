pub mod Chunks
pub mod Nodes
pub mod Trees

-- What only private contracts and proofs cite.
