pub mod Past
pub mod Splitting
