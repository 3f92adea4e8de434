-- Contents: the spaces of the nodes and the flat memory.
pub mod Layers
pub mod Even
pub mod Commit
pub mod Step
pub mod Through
pub mod EachByte
pub mod Spaces
pub mod Reads
pub mod Seen
pub mod Prepares
pub mod Flat
