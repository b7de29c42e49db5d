pub mod Decided
pub mod Calls
pub mod Heads
pub mod Datum
pub mod Signed
pub mod Sizes
pub mod Numbers
