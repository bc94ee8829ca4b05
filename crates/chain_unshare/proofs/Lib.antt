pub mod Splitting
pub mod Unsharing
pub mod Joining
