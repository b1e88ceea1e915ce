pub mod PlanLaws
pub mod Determined
pub mod PlanLongest
