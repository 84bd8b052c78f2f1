pub mod Numbers
pub mod Histories
pub mod Makes
pub mod Shown
pub mod Laws
pub mod PlanLaws
