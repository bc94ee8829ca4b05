pub mod Scanning
pub mod Endings
pub mod Units
pub mod Hauls
pub mod Decoding
pub mod Framing
