pub mod Lettering
pub mod Replayed
pub mod Series
