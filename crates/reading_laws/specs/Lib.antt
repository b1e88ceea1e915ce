pub mod mappings
pub mod protocols
pub mod bounds
