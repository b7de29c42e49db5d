pub mod Thicknesses
pub mod Counts
pub mod Stacks
pub mod Shares
pub mod Pictures
pub mod Outside
pub mod Differences
