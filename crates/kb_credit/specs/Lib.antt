pub mod InvoiceEdits
pub mod InvoiceRows
pub mod Items
pub mod Levelling
pub mod Private
pub mod Sizes
