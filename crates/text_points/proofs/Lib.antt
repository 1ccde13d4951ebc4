pub mod Joining
pub mod Heads
pub mod OperatorTexts
