pub mod Addresses
pub mod Rows
pub mod Verdicts
pub mod Collected
pub use Rattle.cover_points.specs as cover_points
pub use Rattle.design_machines.specs as design_machines
pub use Rattle.text_points.specs as text_points
