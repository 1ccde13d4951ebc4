pub mod Digits
pub mod Drawable
pub mod Entries
pub mod Members
pub mod Found
