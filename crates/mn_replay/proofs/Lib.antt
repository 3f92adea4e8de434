pub mod Scheduled
pub mod Acting
pub mod Halting
