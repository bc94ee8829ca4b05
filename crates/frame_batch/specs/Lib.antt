pub mod Batches
pub mod Spots
pub mod Parts
pub mod Laws
