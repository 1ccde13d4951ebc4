pub mod Entered
pub mod Kept
pub mod Modules
pub mod Named
pub mod Ports
pub mod Room
pub mod Walk
pub mod Answered
