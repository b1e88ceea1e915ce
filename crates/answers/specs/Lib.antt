pub mod Answers
pub mod refused_text
pub mod unlisted
