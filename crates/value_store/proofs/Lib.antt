pub mod Slots
pub mod Indexes
pub mod Offsets
pub mod Spread
pub mod Placed
pub mod Missed
pub mod Left
pub mod Held
pub mod Counted
pub mod Fitted
pub mod Showing
pub use Rattle.body_replay.proofs as body_replay
