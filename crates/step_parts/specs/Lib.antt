pub mod AtStep
pub mod Laws
pub mod Due
pub use Rattle.clocked_laws.specs as clocked_laws
pub use Rattle.mark_laws.specs as mark_laws
pub use Rattle.mark_laws.specs.cover_points as cover_points
pub use Rattle.mark_laws.specs.replay_model as replay_model
pub use Rattle.signal_marks.specs.cover_marks as cover_marks
pub use Rattle.step_changes.specs as step_changes
pub use Rattle.step_changes.specs.body_calls as body_calls
pub use Rattle.step_changes.specs.body_replay as body_replay
pub use Rattle.step_changes.specs.body_store as body_store
pub use Rattle.step_changes.specs.early_sets as early_sets
pub use Rattle.step_changes.specs.replay_sets as replay_sets
pub use Rattle.step_changes.specs.replay_steps as replay_steps
pub use Rattle.step_changes.specs.step_values as step_values
pub use Rattle.step_changes.specs.step_wakes as step_wakes
pub use Rattle.step_changes.specs.store_knowledge as store_knowledge
pub use Rattle.step_changes.specs.wake_laws as wake_laws
