pub mod Views
pub mod States
pub mod Weighing
pub mod Sharing
pub mod Looping
pub mod Closing
pub mod Cases
pub mod LikeLabels
pub mod Branches
pub mod Defaults
pub use Rattle.assignments.proofs as assignments
pub use Rattle.assignments.proofs.scene_laws as scene_laws
pub use Rattle.assignments.proofs.term_replay as term_replay
