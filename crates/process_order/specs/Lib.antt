pub mod Names
pub mod Owners
pub mod Needs
pub mod Order
pub mod Parts
pub mod Tables
pub use Rattle.replay_model.specs as replay_model
