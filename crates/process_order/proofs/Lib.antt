pub mod RowLemmas
pub mod RunOrder
pub mod Driven
pub mod Distinct
pub mod Numbers
pub mod Past
pub mod Adding
pub mod Picking
pub mod Alone
pub use Rattle.design_wakes.proofs.early_sets as early_sets
pub use Rattle.replay_model.proofs as replay_model
