pub mod AnyOrder
pub mod CommandLines
pub mod Cuts
pub mod Lines
pub mod Numbers
pub mod Parsing
pub mod Reread
