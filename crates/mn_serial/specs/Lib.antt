pub mod History
pub mod Meaning
pub mod Settled
pub mod OneHistory
