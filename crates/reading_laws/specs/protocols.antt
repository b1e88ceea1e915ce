pub mod Bell
pub mod Promises
pub mod Written
