pub mod Base
pub mod Refusal
pub mod Rules
pub mod Trees
pub mod Progress
pub mod Shown
