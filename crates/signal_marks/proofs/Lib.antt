pub mod Marked
pub mod Indexes
pub mod Steps
pub mod Masks
pub use Rattle.cover_marks.proofs.state_machines as state_machines
