pub mod Decided
pub mod Consistent
pub mod Own
