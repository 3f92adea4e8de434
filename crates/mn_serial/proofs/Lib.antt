pub mod Settled
pub mod Meaning
mod Shortened
