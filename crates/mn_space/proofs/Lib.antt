pub mod Spaces
pub mod Slots
