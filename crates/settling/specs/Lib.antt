pub mod Wakes
pub mod Runs
pub mod First
pub use Rattle.body_store.specs as body_store
pub use Rattle.body_store.specs.body_calls as body_calls
pub use Rattle.settled_runs.specs.process_targets as process_targets
pub use Rattle.settled_runs.specs.store_knowledge as store_knowledge
pub use Rattle.settled_targets.specs as settled_targets
pub use Rattle.settled_targets.specs.step_values as step_values
pub use Rattle.step_parts.specs as step_parts
pub use Rattle.step_parts.specs.mark_laws as mark_laws
pub use Rattle.step_parts.specs.replay_model as replay_model
pub use Rattle.step_parts.specs.replay_sets as replay_sets
pub use Rattle.step_parts.specs.step_changes as step_changes
pub use Rattle.step_parts.specs.step_wakes as step_wakes
pub use Rattle.step_words.specs as step_words
pub use Rattle.wake_bits.specs as wake_bits
