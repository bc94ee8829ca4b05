pub mod Bits
pub mod Parts
pub mod Freezing
pub mod Turning
pub mod Trading
pub mod Known
pub mod Holdings
pub mod Counting
