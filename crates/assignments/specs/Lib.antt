pub mod Widths
pub mod Pieces
pub mod Takes
pub use Rattle.known_state.specs as known_state
pub use Rattle.scene_laws.specs as scene_laws
pub use Rattle.scene_laws.specs.body_calls as body_calls
pub use Rattle.scene_laws.specs.term_replay as term_replay
pub use Rattle.value_store.specs as value_store
pub use Rattle.value_store.specs.body_replay as body_replay
pub use Rattle.design_model.specs as design_model
pub use Rattle.value_store.specs.four_state as four_state
