pub mod FileLemmas
pub mod Stepping
pub mod FirstValues
pub mod Widths
pub mod Opening
pub mod Scored
pub mod BindingFirst
pub use Rattle.dump_replay.proofs.instance_paths as instance_paths
