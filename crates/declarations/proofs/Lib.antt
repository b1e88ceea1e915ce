pub mod Lines
pub mod ReadSo
pub mod Determined
