pub mod Words
pub mod Epochs
pub use Rattle.body_replay.specs as body_replay
pub use Rattle.four_state.specs as four_state
