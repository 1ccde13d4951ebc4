pub mod Points
pub mod Marked
pub mod Followed
