pub mod Tournament
pub mod Members
pub mod Queues
pub mod Waiting
