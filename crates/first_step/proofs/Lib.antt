pub mod Putting
pub mod Starting
pub mod Left
pub mod Checked
pub use Rattle.settling.proofs.mark_laws as mark_laws
pub use Rattle.settling.proofs.replay_steps as replay_steps
pub use Rattle.settling.proofs.term_replay as term_replay
pub use Rattle.step_check.proofs as step_check
