pub mod Causes
pub mod Undisturbed
