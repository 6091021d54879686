pub mod Currency
pub mod Proration
