pub mod Entries
pub mod Least
