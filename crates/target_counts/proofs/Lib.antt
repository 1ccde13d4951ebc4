pub mod Counting
pub mod Replacing
pub mod Highest
pub mod Clearing
