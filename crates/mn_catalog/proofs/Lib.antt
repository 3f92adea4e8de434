mod Spread
mod Faults
mod Names
mod Versions
