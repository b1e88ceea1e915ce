pub mod Waiting
pub mod steps
