pub mod Advice
pub mod Changing
pub mod Choosing
pub mod Coming
pub mod PlanAdvice
pub mod Pruning
pub mod Shown
