pub mod Words
pub mod Certain
