pub mod Verdicts
pub mod Planning
pub mod judgement
