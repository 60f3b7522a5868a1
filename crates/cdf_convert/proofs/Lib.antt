pub mod Causes
pub mod FewRecords
pub mod Stopped
pub mod TakenSoFar
pub mod WholeCopy
