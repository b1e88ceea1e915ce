pub mod Both
pub mod Reasons
pub mod Sections
pub mod Under
pub mod FieldTold
pub mod Determined
