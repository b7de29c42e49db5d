pub mod Bytes
pub mod Frames
pub mod Places
pub mod Spelled
pub mod Stores
