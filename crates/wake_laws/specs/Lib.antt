pub mod OfDesign
pub mod Laws
pub use Rattle.early_sets.specs as early_sets
pub use Rattle.event_machine.specs as event_machine
