pub mod KnownBooks
