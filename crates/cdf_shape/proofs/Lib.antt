pub mod Places
pub mod OnePlace
pub mod Products
