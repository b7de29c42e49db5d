pub mod State
pub mod Kinds
pub mod Record
pub mod Fold
pub mod File
pub mod Reached
pub mod Written
pub mod Remarks
