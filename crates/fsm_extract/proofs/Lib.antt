pub mod Cuts
pub mod AllX
pub mod Drawn
pub mod Bounds
pub mod Listed
pub mod Named
pub mod Views
