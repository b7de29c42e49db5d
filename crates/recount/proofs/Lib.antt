pub mod Words
pub mod Layers
pub mod Faults
pub mod Answers
