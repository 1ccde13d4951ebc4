pub mod Cells
pub mod Body
pub mod Moves
pub mod Quiet
pub mod Events
pub mod Registers
pub mod Held
pub mod Run
