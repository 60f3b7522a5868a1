pub mod Heads
pub mod Built
pub mod Walking
pub mod Seals
pub mod Loading
pub mod Sessions
pub mod Run
pub mod History
