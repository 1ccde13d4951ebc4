pub mod Most
pub mod Counts
