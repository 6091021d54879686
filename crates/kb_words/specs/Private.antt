pub mod Parsed
pub mod Reading
pub mod Words
pub mod Written
