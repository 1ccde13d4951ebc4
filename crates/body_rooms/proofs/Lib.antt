pub mod Weighed
pub mod Counted
pub mod Stores
