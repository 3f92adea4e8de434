pub mod Fewest
pub mod Given
