pub mod WayToLast
pub mod EndShape
pub mod EndPlan
pub mod EndReach
pub mod EndLinked
pub mod EndCut
pub mod EndTop
pub mod TrimCalls
