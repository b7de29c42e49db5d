pub mod Adding
pub mod Heaped
pub mod Ordered
