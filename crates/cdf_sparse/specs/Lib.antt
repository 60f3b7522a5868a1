pub mod Opening
pub mod SetRule
