pub mod Signals
pub mod Slots
pub mod Near
pub mod Parts
pub mod Held
pub mod Queue
pub mod Rooms
pub use Rattle.body_replay.specs as body_replay
pub use Rattle.design_model.specs as design_model
pub use Rattle.four_state.specs as four_state
