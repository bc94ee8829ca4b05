pub mod Places
pub mod Owed
pub mod Receipts
pub mod Homes
pub mod Lending
