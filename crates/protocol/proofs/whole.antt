pub mod Whole
pub mod Unless
