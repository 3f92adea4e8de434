pub mod Counting
pub mod Growing
pub mod Ordered
pub mod Moves
pub mod Places
pub mod Passes
pub mod Turns
