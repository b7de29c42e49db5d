pub mod Checks
pub mod Search
pub mod Rewrite
pub mod Best
pub mod Grid
