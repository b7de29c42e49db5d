pub mod Exact
pub mod Height
