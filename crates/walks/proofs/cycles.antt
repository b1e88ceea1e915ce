pub mod Leaving
pub mod Opening
pub mod Starts
pub mod Layering
pub mod Picks
