pub mod Notes
pub mod Met
pub mod Runs
pub mod Queue
pub use Rattle.assignments.specs as assignments
pub use Rattle.body_calls.specs as body_calls
pub use Rattle.term_replay.specs as term_replay
