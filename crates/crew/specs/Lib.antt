pub mod Batches
pub mod Crewed
pub mod Turns
