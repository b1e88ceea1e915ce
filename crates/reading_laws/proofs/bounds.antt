pub mod Told
pub mod Bounds
pub mod NamesKept
