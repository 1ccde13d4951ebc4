pub mod Selected
pub mod Turns
pub mod Widths
pub mod Writings
