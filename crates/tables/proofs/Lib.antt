pub mod Gather
pub mod Adding
pub mod AllCells
pub mod InRange
pub mod Stored
pub mod Determined
pub mod Given
