pub mod Doubts
pub mod Legal
pub mod Sound
