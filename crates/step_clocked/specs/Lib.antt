pub mod Runs
pub mod Laws
pub mod Example
pub use Rattle.clocked_marks.specs as clocked_marks
pub use Rattle.replay_sets.specs as replay_sets
