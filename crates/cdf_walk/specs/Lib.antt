pub mod Parts
pub mod Walks
pub mod Gathering
pub mod Errors
