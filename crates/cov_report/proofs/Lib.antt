pub mod Gathering
pub mod Viewing
pub mod Names
pub mod Counting
pub mod Lines
