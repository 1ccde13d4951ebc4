pub mod Clocked
pub mod Laws
pub use Rattle.replay_steps.specs as replay_steps
pub use Rattle.replay_steps.specs.replay_model as replay_model
pub use Rattle.run_cells.specs as run_cells
