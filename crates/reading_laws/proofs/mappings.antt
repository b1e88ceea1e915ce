pub mod Why
pub mod RoundTrip
