pub mod Names
pub mod Gathering
pub mod Told
pub mod Lines
