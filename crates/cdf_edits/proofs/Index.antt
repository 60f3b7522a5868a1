pub mod NodeEdited
pub mod OneDescent
