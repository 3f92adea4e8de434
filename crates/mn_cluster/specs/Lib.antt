pub mod Marks
pub mod Wired
pub mod Workers
pub mod Hired
pub mod Follows
pub mod Runs
