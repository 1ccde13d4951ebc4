pub mod Bodies
pub mod Ended
pub mod Fitting
pub mod Held
pub mod Made
pub mod Premises
pub mod Scenes
pub mod Tests
pub mod Updates
pub mod Veils
pub mod Views
pub mod Laws
pub mod Owned
pub mod Counted
pub use Rattle.body_calls.specs as body_calls
pub use Rattle.body_calls.specs.body_replay as body_replay
pub use Rattle.design_model.specs as design_model
pub use Rattle.design_model.specs.event_machine as event_machine
pub use Rattle.write_log.specs.value_store as value_store
