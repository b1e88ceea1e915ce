pub mod Warshall
pub mod Joining
pub mod Orders
