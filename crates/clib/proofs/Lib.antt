mod Answering
pub mod Reading
