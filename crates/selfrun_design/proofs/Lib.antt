pub mod Tokens
pub mod Modules
pub mod Spelled
pub mod Flat
pub mod CodeDesign
