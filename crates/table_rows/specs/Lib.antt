pub mod causes
pub mod carriers
pub mod stallers
pub mod stalls
pub mod entries
