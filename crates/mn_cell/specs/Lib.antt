pub mod Passes
pub mod Promises
pub mod Calls
pub mod Filled
pub mod Station
pub mod Hearing
pub mod Runs
