pub mod Windows
pub mod Rows
pub mod Tables
pub use Rattle.instance_paths.proofs as instance_paths
