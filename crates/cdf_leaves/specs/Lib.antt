pub mod Putting
pub mod Widening
pub mod Tail
pub mod Added
