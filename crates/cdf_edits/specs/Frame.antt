pub mod Changed
pub mod Kept
pub mod Leaves
pub mod Links
