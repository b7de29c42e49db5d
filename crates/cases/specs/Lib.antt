pub mod Cases
pub mod Shown
pub mod Marks
