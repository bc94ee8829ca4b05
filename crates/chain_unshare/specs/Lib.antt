pub mod Splits
pub mod Backs
pub mod Unshares
pub mod Joins
pub mod Laws
