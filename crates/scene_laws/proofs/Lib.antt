pub mod LikeTerms
pub mod LikeScenes
pub mod BodyContexts
pub mod LikeWays
pub use Rattle.body_calls.proofs.body_replay as body_replay
pub use Rattle.body_calls.proofs.term_replay as term_replay
