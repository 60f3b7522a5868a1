pub mod Pieces
pub mod Newlines
pub mod Queue
