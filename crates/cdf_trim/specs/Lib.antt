pub mod LastEntry
pub mod Trimming
pub mod WayToLast
