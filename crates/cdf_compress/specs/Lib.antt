pub mod Compressing
pub mod Emptying
pub mod Repacking
