pub mod Rows
pub mod Cells
pub mod Returning
pub mod Saving
pub use Rattle.step_values.proofs as step_values
