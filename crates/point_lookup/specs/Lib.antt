pub mod Views
pub mod Keys
pub mod Matching
pub mod Lookup
