pub mod Limits
pub mod Cells
pub mod Passed
pub mod Plates
