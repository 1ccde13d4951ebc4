pub mod Verdicts
pub mod Marked
pub mod Signals
pub use Rattle.cover_points.proofs as cover_points
pub use Rattle.replay_model.proofs as replay_model
