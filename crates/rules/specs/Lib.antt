pub mod Lists
pub mod Walks
pub mod Rules
pub mod Numbers
pub mod Plan
pub mod Promises
