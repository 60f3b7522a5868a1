pub mod Pending
pub mod Parts
pub mod Waiting
