pub mod Chains
pub mod Places
pub mod StepLines
pub mod Determined
pub mod Longest
