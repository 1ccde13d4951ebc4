pub mod Vectors
pub mod Loose
pub mod Loosens
pub mod Taken
pub mod Dumped
pub mod Starts
pub mod Laws
pub use Rattle.design_model.specs as design_model
pub use Rattle.process_targets.specs as process_targets
pub use Rattle.replay_steps.specs as replay_steps
pub use Rattle.replay_steps.specs.replay_model as replay_model
pub use Rattle.store_knowledge.specs as store_knowledge
pub use Rattle.store_knowledge.specs.body_calls as body_calls
pub use Rattle.store_knowledge.specs.body_replay as body_replay
pub use Rattle.store_knowledge.specs.body_store as body_store
pub use Rattle.store_knowledge.specs.value_store as value_store
