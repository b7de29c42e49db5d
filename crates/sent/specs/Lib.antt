pub mod Kinds
pub mod Start
pub mod Written
pub mod File
