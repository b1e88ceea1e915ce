pub mod Told
pub mod named_fields
pub mod messages
pub mod events
pub mod states
