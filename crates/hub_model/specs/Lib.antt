pub mod Hub
pub mod Laws
pub mod Examples
