pub mod Changes
pub use Rattle.code_values.specs as code_values
pub use Rattle.early_sets.specs as early_sets
pub use Rattle.process_order.specs as process_order
pub use Rattle.process_order.specs.replay_model as replay_model
pub use Rattle.step_values.specs as step_values
pub use Rattle.step_values.specs.body_calls as body_calls
pub use Rattle.step_values.specs.body_store as body_store
pub use Rattle.step_values.specs.process_targets as process_targets
pub use Rattle.step_values.specs.replay_steps as replay_steps
pub use Rattle.step_values.specs.store_knowledge as store_knowledge
pub use Rattle.step_wakes.specs as step_wakes
pub use Rattle.step_wakes.specs.replay_sets as replay_sets
pub use Rattle.step_wakes.specs.wake_laws as wake_laws
pub use Rattle.value_store.specs as value_store
pub use Rattle.value_store.specs.body_replay as body_replay
