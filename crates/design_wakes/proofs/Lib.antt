mod Adding
pub mod Tables
pub use Rattle.early_sets.proofs as early_sets
pub use Rattle.process_names.proofs as process_names
