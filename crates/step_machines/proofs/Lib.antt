pub mod Closed
pub mod Fits
pub mod Joined
pub mod Marked
