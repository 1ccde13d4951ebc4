pub mod Meets
pub mod Laws
pub use Rattle.body_store.specs as body_store
pub use Rattle.body_store.specs.body_calls as body_calls
pub use Rattle.body_store.specs.body_replay as body_replay
pub use Rattle.body_store.specs.design_model as design_model
pub use Rattle.body_store.specs.event_machine as event_machine
