pub mod Ranges
pub mod Serving
pub mod Steps
pub mod Blocking
