pub mod Parts
pub mod Fields
pub mod Name
pub mod Words
pub mod Written
pub mod Line
