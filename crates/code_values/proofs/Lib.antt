pub mod Taking
pub mod Changing
