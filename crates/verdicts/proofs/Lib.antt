pub mod Turning
pub mod Written
pub mod Waiting
pub mod Planning
pub mod Determined
