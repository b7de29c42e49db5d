pub mod Parts
pub mod Joining
pub mod Handed
