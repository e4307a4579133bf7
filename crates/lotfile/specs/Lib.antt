pub mod Filing
pub mod LotWords
pub mod Writing
