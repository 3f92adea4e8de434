pub mod Opened
pub mod Places
pub mod Planned
pub mod Shown
pub mod Needs
pub mod Answers
pub mod Run
pub mod Scans
