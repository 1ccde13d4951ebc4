pub mod Noted
pub mod Stands
pub mod Questions
pub mod Near
pub mod Words
pub mod Plain
pub mod Walked
pub mod Numbers
pub use Rattle.body_replay.specs as body_replay
pub use Rattle.design_model.specs as design_model
pub use Rattle.design_model.specs.event_machine as event_machine
pub use Rattle.design_model.specs.point_words as point_words
pub use Rattle.four_state.specs as four_state
pub use Rattle.known_state.specs as known_state
