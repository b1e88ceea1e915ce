pub mod Reading
pub mod whole
pub mod sections
