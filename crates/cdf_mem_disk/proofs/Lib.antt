pub mod Done
pub mod MemMoments
pub mod Histories
pub mod Replays
pub mod DiskCalls
