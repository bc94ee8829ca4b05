pub mod Bytes
pub mod Changes
