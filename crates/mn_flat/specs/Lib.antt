pub mod Numbers
pub mod Votes
pub mod Known
pub mod Told
pub mod Refusal
