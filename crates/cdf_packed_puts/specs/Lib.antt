pub mod Adding
pub mod Putting
pub mod Rewriting
