pub mod Hidden
pub mod Laws
pub use Rattle.design_model.specs as design_model
pub use Rattle.event_machine.specs as event_machine
