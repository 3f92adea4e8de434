pub mod Pages
pub mod Lent
