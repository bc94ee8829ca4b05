pub mod Texts
pub mod Noted
pub mod Cuts
pub mod Inputs
pub mod Hosts
pub mod Nodes
pub mod Complete
