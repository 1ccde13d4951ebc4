pub mod Unqueued
pub mod Running
pub use Rattle.process_targets.proofs as process_targets
pub use Rattle.replay_steps.proofs as replay_steps
pub use Rattle.store_knowledge.proofs as store_knowledge
