pub mod Others
pub mod OnePart
pub mod AllParts
pub mod Going
pub mod Locating
pub mod Cutting
pub mod LikeTargets
pub mod Assigned
pub mod Lawful
pub use Rattle.known_state.proofs as known_state
pub use Rattle.scene_laws.proofs as scene_laws
pub use Rattle.scene_laws.proofs.term_replay as term_replay
pub use Rattle.value_store.proofs.body_replay as body_replay
