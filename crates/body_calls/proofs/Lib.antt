pub use Rattle.known_state.proofs as known_state
pub use Rattle.term_replay.proofs as term_replay
pub use Rattle.term_replay.proofs.body_replay as body_replay
