pub mod CodeText
pub mod Shares
