pub mod Fines
