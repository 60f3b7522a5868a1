pub mod Escapes
pub mod Words
pub mod Numbers
pub mod Takes
pub mod Verbs
