pub mod Outside
pub mod Named
pub mod Participants
pub mod Apart
pub mod Parts
pub mod Bytes
pub mod Answers
pub mod RecordGrammar
pub mod ItemLists
pub mod RecordBytes
pub mod Fits
pub mod SoundParts
pub mod Layers
mod TwoVotes
pub mod Short
pub mod ShortAlike
pub mod ShortSteps
mod ShortLists
