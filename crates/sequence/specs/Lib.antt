pub mod Sequence
pub mod Least
pub mod Rules
pub mod Sheets
