pub mod AtCell
pub mod Columns
