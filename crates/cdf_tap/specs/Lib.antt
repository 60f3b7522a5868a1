pub mod Counted
pub mod Dots
pub mod Lacking
pub mod Meanings
pub mod Reports
