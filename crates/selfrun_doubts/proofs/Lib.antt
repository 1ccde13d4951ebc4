pub mod Wakes
pub mod Known
pub mod Words
pub mod Certain
