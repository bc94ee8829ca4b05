pub mod Unmarked
pub mod Turning
pub mod Returned
pub mod Counted
pub mod Taken
pub mod AllTurns
pub mod Hearing
pub mod Crossing
