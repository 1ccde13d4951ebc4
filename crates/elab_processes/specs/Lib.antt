pub mod Listed
pub mod Nets
pub mod Reads
