pub mod Writing
pub mod Digits
pub mod Copying
pub mod Moving
pub mod Overwriting
pub mod Alone
pub mod Appending
