pub mod Ends
pub mod Line
pub mod Sizes
pub mod Taking
