pub mod Listings
pub mod Private
pub mod ReportLines
