pub mod Numbered
pub mod Marked
pub mod Signals
pub use Rattle.cover_points.specs as cover_points
pub use Rattle.replay_model.specs as replay_model
pub use Rattle.replay_model.specs.body_replay as body_replay
