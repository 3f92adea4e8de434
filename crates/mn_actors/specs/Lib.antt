pub mod Lines
pub mod Lists
pub mod Log
pub mod Rule
pub mod Sight
pub mod Look
