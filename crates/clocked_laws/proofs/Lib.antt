pub mod Rounds
pub mod Order
pub mod Kept
pub mod Firm
pub mod Blank
pub mod Moved
pub mod Names
pub use Rattle.replay_steps.proofs as replay_steps
pub use Rattle.replay_steps.proofs.replay_model as replay_model
