pub mod Knows
pub mod Laws
pub use Rattle.body_store.specs as body_store
pub use Rattle.body_store.specs.body_calls as body_calls
pub use Rattle.body_store.specs.body_replay as body_replay
pub use Rattle.body_store.specs.value_store as value_store
pub use Rattle.open_tests.specs as open_tests
pub use Rattle.open_tests.specs.scene_laws as scene_laws
