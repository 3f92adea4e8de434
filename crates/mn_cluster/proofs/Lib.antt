pub mod Wired
pub mod Fronts
pub mod Hired
pub mod Worked
pub mod Gathered
pub mod Growing
pub mod AtOnce
pub mod Phases
