pub mod Run
pub mod Digest
pub mod Kept
pub mod Table
