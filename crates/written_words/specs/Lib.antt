pub mod Written
pub mod Same
pub use Rattle.index_sets.specs as index_sets
