pub mod Files
pub mod Joining
