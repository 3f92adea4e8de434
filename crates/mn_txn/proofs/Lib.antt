pub mod Turns
pub mod Images
pub mod Sound
pub mod Plans
mod Lists
mod Attempts
mod Found
mod Known
mod Done
mod Unmet
mod Children
mod Apart
mod Least
mod Late
mod EachNode
mod ChildOrder
mod ChildPlan
mod ChildTxn
mod AttemptOrder
mod AttemptTxn
mod AttemptPlan
mod Slots
mod Worn
mod Fits
mod Free
mod Causes
