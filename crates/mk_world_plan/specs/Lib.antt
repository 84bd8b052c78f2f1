pub mod PlanReading
pub mod PlanText
pub mod Spelling
pub mod PlanLaws
