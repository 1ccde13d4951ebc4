pub mod Followed
pub mod Noted
pub mod Compared
