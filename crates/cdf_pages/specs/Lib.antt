pub mod Cached
pub mod Grown
pub mod Growth
pub mod Pages
pub mod Saving
pub mod Standing
pub mod Table
