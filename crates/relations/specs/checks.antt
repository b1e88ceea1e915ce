pub mod CallChecks
