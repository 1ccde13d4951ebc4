pub mod Mentions
pub mod Wakes
pub mod Laws
