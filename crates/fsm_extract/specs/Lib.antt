pub mod Parts
pub mod Arcs
pub mod Walked
pub mod Strange
pub mod Views
pub mod Order
pub mod Fault
