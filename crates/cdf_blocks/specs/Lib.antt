pub mod Blocks
pub mod Reading
pub mod Replaced
pub mod Shortened
pub mod Sites
