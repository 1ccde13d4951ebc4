pub mod Places
pub mod Told
pub mod Followed
pub mod Arcs
