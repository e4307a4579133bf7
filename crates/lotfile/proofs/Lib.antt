mod Splicing
mod Filing
