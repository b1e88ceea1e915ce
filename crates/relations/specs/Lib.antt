pub mod answer
pub mod row_bytes
pub mod checks
pub mod plans
pub mod Call
pub mod Promises
