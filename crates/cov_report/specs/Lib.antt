pub mod Gathered
pub mod Order
pub mod Metrics
pub mod Points
pub mod Report
pub mod Views
pub mod OrderLaws
