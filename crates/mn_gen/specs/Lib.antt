pub mod Draws
pub mod Accounts
pub mod Work
pub mod Generated
pub mod Summary
