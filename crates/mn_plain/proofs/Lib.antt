pub mod TableLemmas
pub mod StepLemmas
pub mod KeptLemmas
pub mod ApplyLemmas
pub mod Shared
