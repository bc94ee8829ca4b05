pub mod Receipts
pub mod Made
pub mod Joined
