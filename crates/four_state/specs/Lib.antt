pub mod Vector
pub mod Arithmetic
pub mod Operators
pub mod Parts
pub mod Edges
pub mod Masks
pub mod Stored
pub mod Examples
