pub mod Backs
pub mod Olds
pub mod Calls
