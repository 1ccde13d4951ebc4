pub mod Points
pub mod Tracefile
pub mod Views
