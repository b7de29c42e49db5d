pub mod Starts
pub mod Laid
pub mod Rows
pub mod Places
pub mod Reading
pub mod Writing
pub mod Round
pub mod Cases
