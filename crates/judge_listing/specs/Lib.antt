pub mod JudgeText
pub mod Places
pub mod Longest
pub mod fit
pub mod step_lines
