pub mod Words
pub mod Accepted
pub mod Refusals
pub mod Staging
pub mod Reading
pub mod FaultLine
