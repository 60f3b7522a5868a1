pub mod Errors
pub mod Laws
