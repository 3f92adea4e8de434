pub mod Part
pub mod Images
pub mod Held
pub mod Memory
pub mod Node
pub mod State
pub mod Restart
