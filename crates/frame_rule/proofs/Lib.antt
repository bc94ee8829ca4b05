pub mod Seeks
pub mod Terminated
pub mod Steps
mod Passing
mod Moving
mod Sharing
mod Intakes
mod Gathered
mod Tight
mod Inner
mod Pieces
