pub mod Writes
pub mod NamesWritten
