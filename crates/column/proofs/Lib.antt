pub mod Order
pub mod Fine
pub mod Inside
pub mod Shares
pub mod Between
pub mod Starts
