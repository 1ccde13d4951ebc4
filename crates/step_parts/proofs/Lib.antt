pub mod Parts
pub mod Noted
pub mod Begun
pub use Rattle.clocked_laws.proofs as clocked_laws
pub use Rattle.mark_laws.proofs as mark_laws
pub use Rattle.mark_laws.proofs.replay_model as replay_model
pub use Rattle.step_changes.proofs as step_changes
pub use Rattle.step_changes.proofs.design_targets as design_targets
pub use Rattle.step_changes.proofs.design_wakes as design_wakes
pub use Rattle.step_changes.proofs.process_order as process_order
pub use Rattle.step_changes.proofs.replay_steps as replay_steps
pub use Rattle.step_changes.proofs.step_values as step_values
