pub mod Boundaries
pub mod Read
pub mod Counts
pub mod Planned
pub mod Printed
pub mod Lengths
pub mod Whole
