pub mod Joins
pub mod Numbers
pub mod Search
pub mod Reading
pub mod Kept
pub mod Weakening
pub mod Laws
pub use Rattle.body_replay.proofs as body_replay
