pub mod Common
pub mod LevelSteps
pub mod Levels
pub mod PyramidBuilt
pub mod ReindexCalls
pub mod MadeFollows
