mod AddedSums
mod Busy
pub mod Counts
pub mod DecimalNames
mod Determined
mod Drained
mod FoundBooks
mod Made
pub mod MonthBounds
mod Paid
mod Performed
pub mod Sendings
mod Sent
mod ShopTexts
