pub mod Joined
pub mod Fronts
pub mod LeftBytes
pub mod Files
pub mod Attached
pub mod LimitedReads
