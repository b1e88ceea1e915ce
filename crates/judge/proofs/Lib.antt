pub mod JudgeLaws
pub mod Determined
pub mod JudgeLongest
