pub mod Parts
pub mod Passed
pub mod Fine
pub mod Combined
