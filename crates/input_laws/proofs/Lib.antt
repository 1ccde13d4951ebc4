pub mod Cells
pub mod Moves
pub mod Runs
pub mod SomeRun
pub mod Toggled
pub mod Exact
pub mod Texts
pub mod Worked
