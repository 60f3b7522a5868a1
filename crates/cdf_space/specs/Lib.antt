pub mod Steps
pub mod Fits
pub mod Tallies
