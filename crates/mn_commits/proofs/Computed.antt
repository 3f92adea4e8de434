-- The program that computes the flat memory: orders of ids, what is kept, and writes.
pub mod Order
pub mod Standing
pub mod Writes
pub mod Outcome
