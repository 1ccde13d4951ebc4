pub mod Ran
mod Entered
