pub mod DesignTables
pub mod Few
pub mod Fresh
pub mod Missing
pub mod Noting
pub use Rattle.design_targets.proofs as design_targets
pub use Rattle.design_wakes.proofs as design_wakes
pub use Rattle.replay_sets.proofs.wake_laws as wake_laws
