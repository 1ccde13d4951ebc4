pub mod Queued
pub mod Blames
pub mod Evaluated
pub mod Noting
pub mod Ways
pub mod WeakWay
pub use Rattle.assignments.proofs as assignments
