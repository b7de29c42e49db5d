pub mod Refusal
pub mod Call
pub mod Settings
pub mod Head
pub mod Datum
