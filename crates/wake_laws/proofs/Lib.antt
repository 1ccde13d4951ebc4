pub mod MovesLaw
pub mod EdgeLists
pub mod WakesLaw
pub mod EarlyLaw
pub mod OnceWriters
pub mod RoundsLaw
pub use Rattle.early_sets.proofs as early_sets
