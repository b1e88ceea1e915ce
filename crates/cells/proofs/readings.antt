pub mod Whole
pub mod Stalling
pub mod Going
