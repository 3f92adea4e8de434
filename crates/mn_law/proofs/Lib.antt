pub mod Sees
pub mod Shows
pub mod MakeRun
pub mod Gathered
pub mod Last
pub mod Pieces
