pub mod Head
pub mod Windows
pub mod Scored
pub use Rattle.design_points.specs as design_points
pub use Rattle.instance_paths.specs as instance_paths
pub use Rattle.verdict_laws.specs as verdict_laws
pub use Rattle.verdict_laws.specs.table_laws as table_laws
