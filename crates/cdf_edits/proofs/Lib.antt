pub mod Common
pub mod Commands
pub mod Edits
pub mod Frame
pub mod Index
pub mod Rules
pub mod Space
