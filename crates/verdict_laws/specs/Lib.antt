pub mod Sound
pub mod Reasoned
pub use Rattle.mark_laws.specs as mark_laws
pub use Rattle.mark_laws.specs.replay_model as replay_model
pub use Rattle.table_laws.specs as table_laws
pub use Rattle.table_laws.specs.point_table as point_table
