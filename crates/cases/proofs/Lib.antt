pub mod Digests
pub mod Texts
pub mod Parts
pub mod Marks
