pub mod Bits
pub mod Entries
pub mod Entering
pub mod Showing
pub use Rattle.step_values.proofs as step_values
