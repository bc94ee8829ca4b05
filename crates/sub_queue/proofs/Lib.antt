pub mod Counting
pub mod Lists
pub mod Moves
pub mod Sizes
pub mod Views
