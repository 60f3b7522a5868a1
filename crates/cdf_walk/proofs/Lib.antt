pub mod Causes
pub mod Dumped
pub mod GatheredTexts
pub mod Shows
pub mod Steps
pub mod Texts
