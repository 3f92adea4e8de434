pub mod Balances
pub mod Doing
pub mod Worked
pub mod Grammar
pub mod Loops
pub mod Adding
