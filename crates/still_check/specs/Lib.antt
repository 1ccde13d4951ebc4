pub mod Stays
pub mod Laws
pub use Rattle.clocked_laws.specs as clocked_laws
pub use Rattle.step_values.specs as step_values
