pub mod Picked
pub mod Found
pub mod Few
