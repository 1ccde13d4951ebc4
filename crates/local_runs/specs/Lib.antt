pub mod Narrowed
pub use Rattle.body_replay.specs as body_replay
