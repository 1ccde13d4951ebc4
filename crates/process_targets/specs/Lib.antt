pub mod Targets
pub mod Placed
pub mod Rows
pub mod Laws
