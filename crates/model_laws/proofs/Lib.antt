pub mod Cells
pub mod DecidedBlocks
pub mod DecidedPoints
pub mod States
pub mod Rules
pub mod Consistent
pub mod Own
