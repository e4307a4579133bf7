pub mod Decimals
pub mod Lines
mod ReadBack
