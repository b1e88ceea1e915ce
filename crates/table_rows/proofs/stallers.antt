pub mod AtCell
pub mod Taking
