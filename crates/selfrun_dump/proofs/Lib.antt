pub mod Steps
pub mod Values
pub mod Says
pub mod Digits
pub mod Reading
pub mod Text
