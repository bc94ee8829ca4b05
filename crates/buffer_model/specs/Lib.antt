pub mod Share
pub mod Segment
pub mod Stake
pub mod Minted
pub mod Clones
pub mod Laws
