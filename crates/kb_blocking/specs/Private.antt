pub mod Stays
pub mod Stretches

-- What private contracts and proofs cite, and no reader has to.
