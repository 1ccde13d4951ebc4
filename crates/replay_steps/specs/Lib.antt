pub mod Settling
pub mod Blank
pub use Rattle.replay_model.specs as replay_model
