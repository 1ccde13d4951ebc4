pub mod SetsLaw
pub use Rattle.wake_laws.proofs as wake_laws
