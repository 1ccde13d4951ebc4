pub mod Fits
pub mod Settles
pub use Rattle.step_parts.specs as step_parts
pub use Rattle.still_check.specs as still_check
