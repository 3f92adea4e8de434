-- What is committed at most once, and what is never.
pub mod Stays
pub mod Records
pub mod Told
pub mod Never
pub mod Once
pub mod Unkept
