pub mod Chosen
pub use Rattle.chosen_early.specs as chosen_early
pub use Rattle.clocked_block.specs as clocked_block
