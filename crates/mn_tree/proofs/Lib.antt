mod Lists
mod Ways
mod Stays
mod Changes
mod Children
mod Runs
mod Paths
mod Numbers
pub mod Trees
