pub mod Plans
pub mod Growth
