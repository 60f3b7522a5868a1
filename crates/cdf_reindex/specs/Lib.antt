pub mod Pyramid
pub mod Rebuilding
pub mod Reindexed
pub mod Reindexing
