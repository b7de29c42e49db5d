pub mod Recount
pub mod Layers
