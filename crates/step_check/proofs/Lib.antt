pub mod Lists
pub mod Checked
pub mod Fits
pub use Rattle.step_changes.proofs as step_changes
pub use Rattle.still_check.proofs as still_check
