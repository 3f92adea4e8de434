pub mod Crash
pub mod Events
pub mod Held
pub mod History
pub mod Laws
pub mod Memory
