pub mod Rows
pub mod Runs
pub mod Laws
pub mod Example
