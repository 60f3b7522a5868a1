pub mod Outlined
pub mod CutLeft
pub mod CutRoom
pub mod CutPacking
pub mod CutPutDone
pub mod CutPutContent
