pub mod AfterCovers
pub mod LeftCharges
pub mod Rests
pub mod RisingBills
pub mod Walks

-- What only private contracts and proofs cite.
