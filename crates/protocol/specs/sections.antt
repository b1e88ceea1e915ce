pub mod Lines
pub mod Sections
pub mod Told
