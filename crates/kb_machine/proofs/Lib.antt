mod CatalogRows
mod KeptTexts
mod KnownBooks
mod NamedBooks
mod NoStates
mod Openings
pub mod Replays
mod Settled
mod TextRefusals
