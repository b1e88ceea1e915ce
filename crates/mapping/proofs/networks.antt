pub mod NetworkLaws
