pub mod Exact
pub mod Heights
