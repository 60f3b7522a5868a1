pub mod Events
pub mod Present
pub mod History
pub mod MemParts
pub mod MemDisk
