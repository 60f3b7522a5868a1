pub mod Common
pub mod Texts
pub mod FlagLemmas
pub mod ClapSimple
pub mod ClapRows
pub mod ClapWords
pub mod ClapLine
