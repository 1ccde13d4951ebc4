pub mod Listed
pub mod Marking
pub mod Written
pub mod Watched
pub mod Changed
pub mod StartWords
