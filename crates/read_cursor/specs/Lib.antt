pub mod Reading
pub mod Shorts
pub mod Finds
