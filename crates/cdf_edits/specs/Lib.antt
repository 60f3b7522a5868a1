pub mod Answers
pub mod Commands
pub mod Edits
pub mod Follows
pub mod Frame
pub mod Index
pub mod Space
