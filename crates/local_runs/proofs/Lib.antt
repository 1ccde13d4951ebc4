mod Locals
mod LocalRuns
pub mod Narrow
