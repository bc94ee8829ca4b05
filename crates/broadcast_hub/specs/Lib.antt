pub mod Hubs
pub mod Joining
pub mod Publishing
pub mod Sending
pub mod Leaving
