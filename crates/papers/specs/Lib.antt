pub mod Checks
pub mod records
pub mod refused
pub mod Fields
pub mod Opening
pub mod Lined
