pub mod Parents
pub mod Walks
pub mod Sets
pub mod Served
