mod Numbers
pub mod Drawings
