pub mod SetsOf
pub use Rattle.replay_model.specs as replay_model
pub use Rattle.wake_laws.specs as wake_laws
