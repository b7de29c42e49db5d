pub mod Sink
pub mod Numbers
pub mod Page
