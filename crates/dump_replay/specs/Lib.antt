pub mod Taken
pub mod Windows
pub mod Followed
pub mod Faults
pub use Rattle.cover_marks.specs as cover_marks
pub use Rattle.replay_core.specs as replay_core
pub use Rattle.score_tables.specs as score_tables
pub use Rattle.score_tables.specs.design_points as design_points
pub use Rattle.score_tables.specs.instance_paths as instance_paths
pub use Rattle.score_tables.specs.table_laws as table_laws
pub use Rattle.score_tables.specs.verdict_laws as verdict_laws
pub use Rattle.shown_dumps.specs as shown_dumps
pub use Rattle.value_store.specs as value_store
