pub mod Beginning
pub mod Moments
pub mod Sending
pub mod Taking
pub mod Turning
pub mod Telling
