pub mod Inputs
pub mod Shown
pub mod Toggled
pub mod Exact
pub mod Worked
