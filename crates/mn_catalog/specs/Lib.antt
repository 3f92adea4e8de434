pub mod Grammar
pub mod Places
pub mod Versions
