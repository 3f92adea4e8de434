pub mod Stages
pub mod Order
pub mod Legal
pub mod Sound
pub mod Tries
pub mod Endings
