pub mod Cells
pub use Rattle.body_replay.specs as body_replay
