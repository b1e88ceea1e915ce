pub mod Look
pub mod Declared
