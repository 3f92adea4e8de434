pub mod Coordination
pub mod Tries
pub mod Inside
pub mod Legal
pub mod Endings
pub mod AllReads
