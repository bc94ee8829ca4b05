pub mod Relay
pub mod Standing
pub mod Laws
pub mod Examples
