pub mod Targets
pub mod Strong
pub mod Weak
pub mod Unnoted
