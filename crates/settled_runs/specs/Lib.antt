pub use Rattle.block_runs.specs as block_runs
pub use Rattle.process_targets.specs as process_targets
pub use Rattle.replay_steps.specs as replay_steps
pub use Rattle.store_knowledge.specs as store_knowledge
