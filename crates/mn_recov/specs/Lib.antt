pub mod Recovery
pub mod Legal
