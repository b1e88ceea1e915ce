pub mod Parts
pub mod Lines
pub mod FieldLaws
pub mod NameLaws
pub mod Written
pub mod Found
pub mod Determined
