pub mod Verdicts
pub mod Entries
pub mod Named
pub mod Variables
