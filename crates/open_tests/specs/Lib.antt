pub mod Views
pub mod Weights
pub mod Open
pub mod Arms
pub use Rattle.assignments.specs as assignments
pub use Rattle.assignments.specs.body_calls as body_calls
pub use Rattle.assignments.specs.scene_laws as scene_laws
pub use Rattle.assignments.specs.term_replay as term_replay
