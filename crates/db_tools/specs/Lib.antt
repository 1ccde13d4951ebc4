pub mod Excluded
pub mod Changes
pub mod Views
pub mod Faults
pub mod Reading
pub mod Greedy
pub mod FaultText
