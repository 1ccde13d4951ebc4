pub mod Woken
pub mod Differing
pub mod Found
pub use Rattle.early_sets.proofs as early_sets
pub use Rattle.process_order.proofs as process_order
pub use Rattle.process_order.proofs.replay_model as replay_model
pub use Rattle.step_values.proofs as step_values
pub use Rattle.step_values.proofs.process_targets as process_targets
pub use Rattle.step_values.proofs.replay_steps as replay_steps
pub use Rattle.step_wakes.proofs.design_targets as design_targets
pub use Rattle.step_wakes.proofs.design_wakes as design_wakes
