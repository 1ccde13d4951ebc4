pub mod Signals
pub mod Says
pub mod Shown
pub mod Worked
