pub mod Headers
pub mod Mapped
pub mod Reading
pub mod Text
pub mod networks
pub mod lines
