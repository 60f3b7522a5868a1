pub mod Descriptors
pub mod Next
pub mod PackedRoom
pub mod Previous
pub mod Records
pub mod Room
pub mod Unpacked
