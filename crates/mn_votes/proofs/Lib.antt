pub mod Unchanged
pub mod Backing
pub mod Start
pub mod Lost
pub mod Preserved
pub mod Acts
pub mod Held
