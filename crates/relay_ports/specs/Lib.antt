pub mod Told
pub mod States
pub mod Calls
pub mod Memory
pub mod Entries
pub mod Lending
pub mod Hosting
