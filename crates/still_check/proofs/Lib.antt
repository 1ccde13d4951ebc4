pub mod Bits
pub mod Still
pub mod Least
pub mod Moves
pub use Rattle.clocked_laws.proofs as clocked_laws
pub use Rattle.step_values.proofs as step_values
