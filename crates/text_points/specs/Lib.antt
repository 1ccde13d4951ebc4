pub mod View
pub mod Lines
pub mod Operators
pub mod Nodes
