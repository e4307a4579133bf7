pub mod Fitting
pub mod Modes
pub mod Planning
pub mod Replaying
pub mod Totals
