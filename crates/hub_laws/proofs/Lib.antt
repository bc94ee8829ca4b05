pub mod Walking
pub mod Leaving
