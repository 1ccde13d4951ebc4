pub mod Checks
pub mod Laws
pub use Rattle.step_changes.specs as step_changes
