pub mod Begun
pub mod Example
pub use Rattle.settling.specs as settling
pub use Rattle.settling.specs.mark_laws as mark_laws
pub use Rattle.settling.specs.replay_sets as replay_sets
pub use Rattle.settling.specs.step_values as step_values
pub use Rattle.settling.specs.step_wakes as step_wakes
pub use Rattle.settling.specs.store_knowledge as store_knowledge
pub use Rattle.settling.specs.wake_bits as wake_bits
pub use Rattle.step_check.specs as step_check
pub use Rattle.step_check.specs.step_changes as step_changes
