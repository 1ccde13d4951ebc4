pub mod Step
pub use Rattle.replay_sets.specs as replay_sets
pub use Rattle.replay_sets.specs.wake_laws as wake_laws
