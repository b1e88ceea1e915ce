pub mod Told
pub mod ReadLaws
pub mod Determined
