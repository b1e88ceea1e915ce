pub mod Protocol
pub mod Determined
