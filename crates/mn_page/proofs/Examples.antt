-- Worked examples of the definitions, by computation.
pub mod Spelling
pub mod Overlays
pub mod Versions
