pub mod Forecasts
pub mod Layers
pub mod Orderly
pub mod Supplies
pub mod Texts
