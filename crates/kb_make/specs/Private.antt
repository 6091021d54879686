pub mod Adding
pub mod Lines
pub mod Places
pub mod Sayings
pub mod Sending
pub mod ShopTexts

-- What only private contracts and proofs cite.
