pub mod Order
pub mod Texts
pub mod Things
pub mod MachinePoints
pub mod Listed
pub mod Faults
pub mod FaultText
pub mod Visits
pub use Rattle.design_machines.specs as design_machines
pub use Rattle.design_model.specs.point_words as point_words
pub use Rattle.text_points.specs as text_points
