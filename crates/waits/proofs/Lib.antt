pub mod Waiting
pub mod Determined
