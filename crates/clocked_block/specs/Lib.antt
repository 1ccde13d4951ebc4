pub mod OneRun
pub use Rattle.clocked_runs.specs as clocked_runs
pub use Rattle.entry_values.specs as entry_values
