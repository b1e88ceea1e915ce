pub mod Steps
pub mod Passed
pub mod Kept
pub mod Leaving
pub mod Lines
pub mod Going
pub mod Stored
