pub mod Turnings
