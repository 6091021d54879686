pub mod DigitsBehind
pub mod Parts
pub mod Reading
