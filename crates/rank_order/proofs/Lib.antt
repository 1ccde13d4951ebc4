pub mod Orders
pub mod Placing
pub mod Progress
