pub mod Marked
pub mod Trial
