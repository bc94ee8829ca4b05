pub mod Spans
pub mod BlockLends
