pub mod Checks
pub mod Search
pub mod Best
pub mod Rewrite
pub mod Spans
pub mod Lent
pub mod Grid
pub mod Perm
