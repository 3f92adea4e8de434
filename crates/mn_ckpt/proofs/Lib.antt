pub mod Areas
pub mod Moments
