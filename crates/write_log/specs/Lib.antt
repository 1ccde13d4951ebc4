pub mod Entries
pub mod Logs
pub mod Rooms
pub mod Common
pub use Rattle.value_store.specs as value_store
pub use Rattle.value_store.specs.design_model as design_model
