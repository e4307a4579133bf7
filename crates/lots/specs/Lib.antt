pub mod Dated
pub mod Decimals
pub mod Lots
pub mod Words
