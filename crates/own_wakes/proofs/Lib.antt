pub mod OwnReads
pub mod OwnWakes
pub use Rattle.flat_laws.proofs as flat_laws
