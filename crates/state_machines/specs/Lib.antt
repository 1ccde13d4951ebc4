pub mod Machines
pub mod Seen
pub mod Entries
pub mod Lookups
pub mod Values
pub mod Same
pub mod Drawn
pub use Rattle.design_model.specs as design_model
