pub mod Notations
pub mod Numbers
pub mod Reading
