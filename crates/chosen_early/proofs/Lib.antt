pub mod Choosing
pub use Rattle.early_sets.proofs as early_sets
