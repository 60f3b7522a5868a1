pub mod Base
pub mod Frame
pub mod OldBytes
pub mod Calls
