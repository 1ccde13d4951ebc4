pub mod Tests
pub mod Aside
pub mod Before
pub mod Bits
pub mod Forgets
pub mod Dumps
pub mod Bound
pub mod Starting
pub mod Taking
pub use Rattle.design_model.proofs as design_model
pub use Rattle.process_targets.proofs as process_targets
pub use Rattle.replay_steps.proofs as replay_steps
pub use Rattle.replay_steps.proofs.replay_model as replay_model
pub use Rattle.store_knowledge.proofs as store_knowledge
pub use Rattle.store_knowledge.proofs.body_store as body_store
