pub mod CostLines
pub mod Costing
pub mod Lines
pub mod LotFiles
pub mod Modes
pub mod Planning
pub mod Printing
pub mod Refusals
