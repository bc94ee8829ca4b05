pub mod Told
pub mod Prints
pub mod Blocks
pub mod Digits
pub mod Lanes
