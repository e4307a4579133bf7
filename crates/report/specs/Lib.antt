pub mod Fitting
pub mod Modes
pub mod Planning
