pub mod Local
pub mod Tests
pub mod Model
pub mod Cases
