pub mod Marks
pub mod Tails
