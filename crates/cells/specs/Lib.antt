pub mod Names
pub mod Told
pub mod shapes
pub mod places
pub mod targets
pub mod readings
