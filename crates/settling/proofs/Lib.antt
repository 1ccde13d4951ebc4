pub mod Masks
pub mod Changing
pub mod Words
pub mod Acts
pub mod Targets
pub mod Stepping
pub mod FirstRuns
pub use Rattle.settled_runs.proofs.replay_steps as replay_steps
pub use Rattle.settled_targets.proofs.step_values as step_values
pub use Rattle.step_parts.proofs.design_targets as design_targets
pub use Rattle.step_parts.proofs.design_wakes as design_wakes
pub use Rattle.step_parts.proofs.mark_laws as mark_laws
pub use Rattle.step_parts.proofs.replay_model as replay_model
pub use Rattle.step_parts.proofs.step_changes as step_changes
pub use Rattle.term_replay.proofs as term_replay
pub use Rattle.wake_bits.proofs as wake_bits
pub use Rattle.wake_bits.proofs.process_order as process_order
