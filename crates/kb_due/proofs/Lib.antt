pub mod DueCells
pub mod KeptDays
pub mod SameCells
