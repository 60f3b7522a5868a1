pub mod Statuses
pub mod Refusing
pub mod Counts
pub mod Saved
