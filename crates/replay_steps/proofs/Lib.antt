pub mod Settling
pub mod Resting
pub mod Blank
pub mod Cells
pub use Rattle.replay_model.proofs as replay_model
