pub mod Schedule
pub mod Follows
