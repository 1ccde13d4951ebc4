pub mod Entry
pub mod Entering
pub use Rattle.local_runs.specs as local_runs
pub use Rattle.run_views.specs as run_views
pub use Rattle.step_values.specs as step_values
pub use Rattle.step_values.specs.replay_model as replay_model
