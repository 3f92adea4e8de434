pub mod Growth
pub mod Replay
pub mod Stays
pub mod Tears
pub mod Writing
