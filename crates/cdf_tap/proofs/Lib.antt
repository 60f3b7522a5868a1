pub mod Dropped
pub mod Lists
pub mod Looked
pub mod Told
