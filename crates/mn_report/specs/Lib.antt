pub mod Spelling
pub mod Answers
pub mod Report
