pub mod Saved
pub mod Returned
pub use Rattle.step_values.specs as step_values
