pub mod Arc
pub mod Design
pub mod Machine
pub mod Step
pub mod Word
