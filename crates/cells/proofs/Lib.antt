pub mod Names
pub mod Named
pub mod Judging
pub mod InRange
pub mod Determined
