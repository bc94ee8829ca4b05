pub mod Queued
pub mod Parts
pub mod QueueLends
