pub mod Written
pub mod Leaving
pub mod Unshared
pub mod Numbers
pub mod Copied
pub mod Appended
