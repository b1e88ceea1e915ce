pub mod Counts
pub mod Shaped
