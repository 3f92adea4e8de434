pub mod Promise
pub mod Further
