pub mod OpeningRoom
pub mod Left
