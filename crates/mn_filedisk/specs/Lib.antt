pub mod File
