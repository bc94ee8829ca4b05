pub mod Marking
pub mod Pieces
