pub mod AdjustedRows
pub mod KeptSums
pub mod OpenInvoices
pub mod Passes
