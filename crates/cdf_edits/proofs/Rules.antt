pub mod FirstHead
pub mod OfAttributes
pub mod OfIndexes
pub mod OfVariables
pub mod OfVdrCopied
pub mod WithoutLinks
