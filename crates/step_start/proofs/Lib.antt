pub mod Members
pub mod Placed
pub mod Found
pub mod Settled
pub mod Named
pub use Rattle.step_parts.proofs as step_parts
