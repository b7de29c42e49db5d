pub mod Possible
pub mod Tests
pub mod Records
pub mod Paper
pub mod Bytes
