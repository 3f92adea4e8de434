pub mod DiskModel
pub mod Faults
pub mod Memory
