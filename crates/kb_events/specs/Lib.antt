pub mod Pieces
pub mod SmallPieces
pub mod Private
