pub mod Sending
pub mod Targeted
