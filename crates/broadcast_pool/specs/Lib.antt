pub mod Pools
