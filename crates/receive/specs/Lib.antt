pub mod Receiving
pub mod Rows
