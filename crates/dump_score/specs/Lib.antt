pub mod Reading
pub mod Faults
pub mod Scoring
pub use Rattle.dump_replay.specs as dump_replay
pub use Rattle.dump_replay.specs.instance_paths as instance_paths
pub use Rattle.dump_replay.specs.replay_core as replay_core
pub use Rattle.dump_replay.specs.score_tables as score_tables
pub use Rattle.dump_replay.specs.verdict_laws as verdict_laws
