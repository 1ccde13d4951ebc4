pub mod Shared
pub use Rattle.early_sets.specs as early_sets
