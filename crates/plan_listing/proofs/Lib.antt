pub mod Growing
pub mod Lines
pub mod Determined
pub mod Longest
