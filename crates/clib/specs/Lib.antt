pub mod Answers
pub mod Costs
pub mod Groups
pub mod Layers
pub mod Numbers
pub mod Outcomes
pub mod Plans
pub mod Refusals
