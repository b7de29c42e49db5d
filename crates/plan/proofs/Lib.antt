pub mod Sums
pub mod Rows
pub mod Relaxing
pub mod Listing
pub mod Passed
