pub mod Whole
pub mod Kept
