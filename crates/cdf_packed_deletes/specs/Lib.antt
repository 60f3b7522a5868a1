pub mod Steps
pub mod Closing
pub mod Opening
pub mod Keeping
pub mod OpenKeeping
