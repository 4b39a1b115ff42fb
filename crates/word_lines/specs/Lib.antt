pub mod Piece
pub mod Word
