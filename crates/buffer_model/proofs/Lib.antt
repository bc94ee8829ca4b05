pub mod Windows
pub mod Storages
pub mod Totals
pub mod Minted
pub mod Clones
