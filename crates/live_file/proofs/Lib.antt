pub mod Pieces
pub mod AsImage
