pub mod Words
pub mod Running
pub mod Refusing
pub mod Starting
