pub mod CanRun
pub use Rattle.block_runs.specs as block_runs
pub use Rattle.clocked_laws.specs as clocked_laws
pub use Rattle.run_views.specs as run_views
pub use Rattle.store_knowledge.specs as store_knowledge
