pub mod Line
pub mod Checks
pub mod Told
pub mod FieldTold
pub mod words
pub mod shapes
pub mod misplaced
pub mod next
