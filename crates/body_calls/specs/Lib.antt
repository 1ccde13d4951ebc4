pub mod Lvalues
pub mod Ways
pub mod Rooms
pub mod Under
pub mod Own
pub use Rattle.known_state.specs as known_state
pub use Rattle.term_replay.specs as term_replay
pub use Rattle.term_replay.specs.body_replay as body_replay
pub use Rattle.term_replay.specs.design_model as design_model
pub use Rattle.term_replay.specs.event_machine as event_machine
pub use Rattle.term_replay.specs.four_state as four_state
pub use Rattle.term_replay.specs.point_words as point_words
