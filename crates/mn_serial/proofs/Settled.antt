-- Settled: one number of a page or an entry never stands for two contents.
pub mod Numbers
pub mod Ranges
pub mod Parts
pub mod Becoming
pub mod Kept
pub mod Steps
pub mod Begins
pub mod Shown
pub mod Agree
pub mod Law
