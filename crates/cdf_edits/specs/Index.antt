pub mod Blocks
pub mod Cut
pub mod Grown
pub mod Redone
pub mod Written
