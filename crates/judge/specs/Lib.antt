pub mod Call
pub mod Determined
pub mod Longest
pub mod program
