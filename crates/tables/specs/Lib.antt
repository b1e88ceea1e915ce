pub mod Tables
pub mod Cells
pub mod Clash
pub mod Relations
pub mod names
