pub mod Filling
pub mod Stretches
pub mod Laws
