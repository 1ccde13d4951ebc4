pub mod Unread
pub mod Makes
