pub mod PlanText
pub mod Lengths
