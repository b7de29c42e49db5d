pub mod Lines
pub mod Work
pub mod Prints
