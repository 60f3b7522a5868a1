pub mod Places
pub mod NameLengths
