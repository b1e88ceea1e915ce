pub mod Listings
pub mod Packing
pub mod Small
pub mod Determined
pub mod Told
