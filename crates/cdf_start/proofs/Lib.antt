pub mod Survived
