pub mod Addends
pub mod Near
pub mod Passed
pub mod Plates
