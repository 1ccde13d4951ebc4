pub mod Call
pub mod Effects
pub mod Files
pub mod Refusals
