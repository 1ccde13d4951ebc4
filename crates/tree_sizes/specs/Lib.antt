pub mod Sizes
pub mod Example
