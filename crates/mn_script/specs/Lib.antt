pub mod Words
pub mod Strings
pub mod Lines
pub mod Script
pub mod Reading
pub mod Grammar
pub mod Laws
pub mod Roster
