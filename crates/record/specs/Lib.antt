pub mod Bytes
pub mod Frame
pub mod Faults
pub mod Places
pub mod Written
