pub mod PlanLaws
pub mod FormLaws
pub mod Targets
