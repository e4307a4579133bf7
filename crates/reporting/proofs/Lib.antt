pub mod CostLines
pub mod Models
pub mod Planned
pub mod Fitting
pub mod Reading
