pub mod Limits
pub mod Layer
pub mod Table
pub mod Sequence
pub mod Sheets
pub mod Motor
pub mod Groups
pub mod Facts
