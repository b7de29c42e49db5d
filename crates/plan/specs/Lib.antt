pub mod Planning
pub mod Rows
pub mod Working
pub mod Plan
