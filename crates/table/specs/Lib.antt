pub mod Cells
pub mod Limits
pub mod Table
pub mod Plates
