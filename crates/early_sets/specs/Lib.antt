pub mod Once
pub mod Has
pub mod Adds
pub mod Edges
pub mod Changes
pub mod Reached
pub mod Sizes
pub mod WakeState
pub mod Rounds
pub mod Early
pub mod Turns
pub mod Settled
pub use Rattle.index_sets.specs as index_sets
pub use Rattle.wake_tables.specs as wake_tables
