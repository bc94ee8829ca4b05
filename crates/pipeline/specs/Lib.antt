pub mod Plain
pub mod Meanings
pub mod Stages
pub mod Nodes
pub mod Laws
pub mod Batches
