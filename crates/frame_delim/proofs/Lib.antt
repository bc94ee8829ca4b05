pub mod Keeps
pub mod Ends
pub mod Sizes
pub mod Scans
